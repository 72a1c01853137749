pub mod Status
pub mod Frames
pub mod Payloads
pub mod Sending
pub mod Links
pub mod ReadBack
pub mod Refusals
