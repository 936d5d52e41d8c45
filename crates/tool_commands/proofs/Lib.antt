pub mod Answering
pub mod Cuts
pub mod Installs
pub mod Lines
pub mod Listing
pub mod Outcomes
pub mod Within
pub mod Known
