pub mod Access
pub mod Asked
pub mod Ends
pub mod Progress
pub mod Watched
pub mod WithFile
