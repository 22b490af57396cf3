-- Document 01 and the requests as definitions: what a reader needs to know what is promised.
pub mod Machine
pub mod Buffers
pub mod Agreement
pub mod Directory
pub mod Soundness
pub mod Moves
pub mod Sweep
pub mod Naming
pub mod Answers
pub mod Rules
pub mod Calls
pub mod History
pub mod Demand3
pub mod LockedPages
pub mod ByChain
