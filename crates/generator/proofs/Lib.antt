-- The number before a draw, and that it is the only one.
pub mod UndoneLaws
