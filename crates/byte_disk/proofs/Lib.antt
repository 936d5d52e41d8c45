mod Found
mod Kept
mod Latest
pub mod Plans
pub mod ReadOnly
mod Whole
