pub mod Drawing
pub mod ParentByTable
pub mod Refusals
pub mod DrawsInList
pub mod DrawnRows
