pub mod Laws
pub mod Message
pub mod Buffers
pub mod Answers
pub mod ThereAndBack
pub mod Figures
pub mod Listed
