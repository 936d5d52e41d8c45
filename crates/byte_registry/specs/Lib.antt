pub mod Asked
pub mod Bytes
pub mod Plans
pub mod Replies
pub mod Updated
pub mod inside
