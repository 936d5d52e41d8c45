pub mod Snapshot
pub mod inside
