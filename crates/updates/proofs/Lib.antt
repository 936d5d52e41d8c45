pub mod Answered
pub mod Asked
pub mod Drafts
pub mod Ended
pub mod Moments
pub mod Planned
pub mod Sent
pub mod Texts
