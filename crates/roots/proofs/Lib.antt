mod Choices
mod Distinct
mod Listed
mod Numbers
mod Pieces
mod Placed
mod Written
pub mod CatalogueLemmas
pub mod Catalogues
pub mod ChoiceLemmas
pub mod Entries
pub mod RootLemmas
pub mod Roots
