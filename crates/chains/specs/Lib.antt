-- The directory of resident pages as bytes and chains, and which frames a chain leads through.
pub mod Chain
pub mod Links
pub mod ChainRows
