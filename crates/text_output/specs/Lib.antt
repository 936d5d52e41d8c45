pub mod Name
pub mod Hexadecimal
pub mod Sends
pub mod Pieces
