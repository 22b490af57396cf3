pub mod CallNumbers
pub mod Lines
pub mod Listing
