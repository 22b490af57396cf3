pub mod Generator
pub mod GeneratorRows
pub mod ShiftLaws
pub mod SeedLaws
