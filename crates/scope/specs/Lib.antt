pub mod Objects
pub mod Levels
pub mod LoadOrder
pub mod Queue
pub mod Refusal
pub mod Lookup
pub mod Target
pub mod inside
