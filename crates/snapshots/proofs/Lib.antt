pub mod HoldsAll
pub mod Kept
pub mod Releases
