pub mod ByteDisk
pub mod Bytes
pub mod Plan
pub mod ReadOnlyDisk
pub mod inside
