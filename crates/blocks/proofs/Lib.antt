pub mod Over
pub mod Counts
pub mod Contents
pub mod Looks
mod Turns
mod Search
mod Parts
mod Appends
mod Deliveries
