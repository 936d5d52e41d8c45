pub mod Constant
pub mod HashTable
pub mod Symbol
pub mod Strings
pub mod Relocation
pub mod Table
pub mod Refusal
pub mod inside
