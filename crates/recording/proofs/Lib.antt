-- Laws of the listing, for the code.
pub mod ListingLaws
pub mod OneStore
