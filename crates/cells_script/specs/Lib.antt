pub mod Words
pub mod Numbers
pub mod Lines
pub mod Bounds
pub mod Texts
pub mod Telling
pub mod Said
