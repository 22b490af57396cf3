pub mod Stored
pub mod Named
pub mod Loadable
pub mod NamedByTables
