pub mod Steps
pub mod Backtracks
