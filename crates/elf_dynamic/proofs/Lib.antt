pub mod Accepted
mod Stages
mod TableEntries
mod ByNumber
mod Misplaced
mod SymbolNumbers
mod StringEnds
mod SignedSum
pub mod NoneRefused
