-- Laws: the tests are `agree`, and what the pass hands on.
pub mod Same
pub mod Hands
