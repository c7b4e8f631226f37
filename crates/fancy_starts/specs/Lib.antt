pub mod Matches
pub mod Starts
