pub mod Homes
pub mod Pass
pub mod ChainPasses
pub mod HomeFilling
pub mod Walks
pub mod Start
