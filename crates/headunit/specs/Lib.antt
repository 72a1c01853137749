pub mod Unit
pub mod Steps
