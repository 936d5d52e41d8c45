pub mod Said
pub mod Streams
