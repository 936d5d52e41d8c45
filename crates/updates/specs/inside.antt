pub mod Begun
pub mod Committed
pub mod Line
pub mod Lines
