pub mod CallCount
pub mod Disk
pub mod Fuse
pub mod Liar
pub mod Memory
pub mod Moments
pub mod Written
pub mod inside
