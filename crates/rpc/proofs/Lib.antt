pub mod Forms
pub mod Answers
pub mod Buffers
pub mod ThereAndBack
pub mod Figures
pub mod Through
pub mod Listed
