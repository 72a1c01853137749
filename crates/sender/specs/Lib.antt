pub mod Sender
pub mod ReadBack
pub mod Bursts
