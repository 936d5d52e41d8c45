-- Definitions of the data that make the code fast. To understand the contracts of public calls, you
-- don't need them.
pub mod Index
pub mod Tags
pub mod Needed
