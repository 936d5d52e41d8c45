mod Contents
mod Fused
mod Kept
pub mod Mixtures
pub mod Moments
mod Settling
mod Turns
mod Walks
mod Whole
pub mod Writes
