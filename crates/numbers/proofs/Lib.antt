pub mod Choices
pub mod Laws
pub mod Slices
mod Turns
