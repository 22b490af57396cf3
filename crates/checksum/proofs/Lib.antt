-- The definition in steps, as loops take them.
pub mod ChecksumLaws
