pub mod Fields
pub mod Layout
pub mod Calls
pub mod Lists
