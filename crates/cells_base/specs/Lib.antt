pub mod Causes
pub mod Options
pub mod Lists
