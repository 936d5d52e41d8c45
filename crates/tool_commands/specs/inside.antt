pub mod Lack
pub mod Listed
pub mod Sums
pub mod Unread
pub mod WithFile
