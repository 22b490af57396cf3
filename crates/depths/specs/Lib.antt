-- Request A.12 as definitions, and what it claims of them.
pub mod Depths
pub mod Tallying
pub mod HowMany
-- Cases computed from them.
pub mod DepthRows
