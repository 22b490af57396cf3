pub mod FoundByTable
pub mod Walk
