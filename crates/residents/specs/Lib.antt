pub mod Residents
pub mod HeldByTable
pub mod ResidentLaws
pub mod Handed
