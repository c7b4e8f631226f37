pub mod Blame
pub mod Faults
pub mod Known
pub mod Leaves
pub mod Words
