pub mod Limits
pub mod Geometry
pub mod State
pub mod Cost
pub mod Changes
pub mod Room
