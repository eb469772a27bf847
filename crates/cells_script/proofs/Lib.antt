pub mod Numerals
pub mod WordsRead
