pub mod Checksum
pub mod ChecksumRows
pub mod Parts
