pub mod Counts
pub mod Escaping
