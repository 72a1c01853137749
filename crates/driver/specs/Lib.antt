pub mod Spelling
pub mod Answers
pub mod States
pub mod Turns
pub mod Input
