pub mod Named
pub mod Bindings
pub mod Dependencies
pub mod inside
