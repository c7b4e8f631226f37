pub mod Asked
pub mod Performed
pub mod Parts
