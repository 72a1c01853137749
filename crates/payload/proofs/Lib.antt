pub mod Within
pub mod Order
pub mod TopLevel
pub mod Figures
pub mod Appends
pub mod Writers
mod Drafts
pub mod Versions
pub mod Replies
pub mod VersionLaws
pub mod VersionOrder
pub mod Cases
pub mod ReadBack
mod Outcomes
mod Tests
mod Rest
pub mod Listed
