pub mod Turns
pub mod Readies
