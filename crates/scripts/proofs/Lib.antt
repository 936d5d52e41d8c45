pub mod Ascii
pub mod Forms
pub mod Fronts
pub mod Lines
pub mod Pages
pub mod Pieces
