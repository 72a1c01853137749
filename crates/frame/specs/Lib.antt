pub mod Rules
pub mod Read
pub mod Write
pub mod Message
pub mod ReadBack
pub mod Figures
