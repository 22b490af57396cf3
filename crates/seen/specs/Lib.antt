pub mod Fold
pub mod Among
pub mod BitLaws
pub mod Seen
pub mod SeenLaws
