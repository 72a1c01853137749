pub mod Turns
pub mod Characters
pub mod Pairs
pub mod LineEnds
pub mod Digits
pub mod Laws
mod Cases
mod Outcomes
pub mod Places
