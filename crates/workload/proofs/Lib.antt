-- Laws of the definitions for the code, a workload block by block, and the proof of what is claimed of workloads.
pub mod WorkloadLaws
pub mod Blocks
pub mod Replay
pub mod InListHolds
