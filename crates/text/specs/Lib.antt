pub mod Said
pub mod Pieces
