pub mod Spelling
pub mod Answers
pub mod States
pub mod Laying
pub mod Turns
