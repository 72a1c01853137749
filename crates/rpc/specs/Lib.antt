pub mod Rules
pub mod Layout
pub mod Read
pub mod Write
pub mod ReadBack
pub mod Figures
pub mod Through
