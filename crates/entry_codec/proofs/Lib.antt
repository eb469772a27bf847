pub mod Loop
pub mod Lease
pub mod Laws
pub mod Distinct
pub mod Fields
pub mod Entries
pub mod Lengths
pub mod Written
