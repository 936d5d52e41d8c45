-- Definitions of the data that make the code fast. To understand the contracts of public calls, you
-- don't need them.
pub mod Growing
pub mod Places
pub mod Reached
pub mod Definitions
