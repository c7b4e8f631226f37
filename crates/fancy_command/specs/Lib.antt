pub mod Arguments
pub mod Printing
pub mod Writing
pub mod Commands
