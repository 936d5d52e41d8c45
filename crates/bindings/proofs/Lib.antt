pub mod Flags
pub mod Known
pub mod Naming
pub mod Texts
pub mod Undefined
