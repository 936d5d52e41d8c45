pub mod Asked
pub mod Line
pub mod Reading
pub mod Words
pub mod inside
