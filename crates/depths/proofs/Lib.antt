-- Laws of the definitions, and the proof of the claims.
pub mod PageListLaws
pub mod Recency
pub mod TallyLaws
pub mod AddLaws
pub mod Exact
