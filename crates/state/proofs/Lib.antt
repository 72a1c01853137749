pub mod Packed
pub mod Rows
pub mod Stored
pub mod Fitting
pub mod Steps
pub mod Lists
mod Creation
pub mod Made
mod Turns
pub mod Listed
