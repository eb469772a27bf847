pub mod Rows
pub mod Kept
pub mod Whole
pub mod Lists
pub mod Gathered
pub mod ByRow
pub mod Outcomes
pub mod Listed
