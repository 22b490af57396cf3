-- Laws of the definitions for the code, and the proof of the claims.
pub mod DrawingLaws
pub mod Ranges
pub mod RefusalsHold
pub mod DrawsInListHolds
