pub mod Digest
pub mod File
pub mod Info
pub mod Finding
