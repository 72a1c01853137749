pub mod FrameResults
pub mod PayloadResults
pub mod LinkResults
pub mod ReadBack
pub mod Refusals
pub mod Named
mod FrameFields
mod PayloadOutcomes
