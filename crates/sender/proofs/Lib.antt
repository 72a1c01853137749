pub mod Counts
pub mod Laws
pub mod ReadBack
pub mod Bursts
pub mod Listed
