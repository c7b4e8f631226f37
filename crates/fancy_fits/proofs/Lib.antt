pub mod Codes
pub mod Constructs
pub mod Known
pub mod Batches
pub mod Trees
pub mod Calls
pub mod Accepted
pub mod Programs
