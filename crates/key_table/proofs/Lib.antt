mod Tables
mod Joins
mod Parts
pub mod Picked
