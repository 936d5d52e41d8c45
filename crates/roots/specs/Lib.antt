pub mod Limits
pub mod Fields
pub mod Root
pub mod Slot
pub mod Choice
pub mod Catalogue
pub mod Entry
pub mod inside
