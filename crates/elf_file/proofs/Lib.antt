pub mod FirstOf
mod Accepted
mod Stages
mod Spans
pub mod Order
mod LoadNumbers
mod AnyLoad
pub mod ByNumber
mod Blocks
mod TagTables
mod InMemory
mod NeededFrom
