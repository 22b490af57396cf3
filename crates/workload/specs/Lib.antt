pub mod Workload
pub mod WorkloadRows
pub mod InList
