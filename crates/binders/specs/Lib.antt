pub mod Counted
pub mod Events
pub mod EventsRan
pub mod Slotted
pub mod Stepped
