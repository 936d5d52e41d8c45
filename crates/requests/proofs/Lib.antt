pub mod Bindings
pub mod LibraryLists
pub mod Names
pub mod Runs
pub mod Sonames
