pub mod Script
pub mod Replay
pub mod Update
