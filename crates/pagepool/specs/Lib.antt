pub mod Structs
pub mod StructLaws
