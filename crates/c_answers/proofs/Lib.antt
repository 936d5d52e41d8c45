pub mod Bindings
mod Changes
pub mod Contents
pub mod Device
mod Entries
pub mod Executable
pub mod Findings
pub mod Given
mod Names
mod Objects
mod Places
mod Rows
mod Steps
mod Zeros
pub mod Updates
