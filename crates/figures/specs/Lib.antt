pub mod Refusal
pub mod Service
pub mod FrameType
pub mod Command
