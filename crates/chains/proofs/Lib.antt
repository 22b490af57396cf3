-- What holds of chains and links.
pub mod FrameTally
pub mod ChainLaws
pub mod ChainFacts
