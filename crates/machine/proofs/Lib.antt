-- Laws of the definitions, for the code and for the theorem, and the proofs of demand 3 and of what is said of locked pages and of the directory.
pub mod Laws
pub mod Theorem
