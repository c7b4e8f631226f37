pub mod Copies
pub mod Needs
pub mod Requests
pub mod Searches
pub mod Scratches
pub mod Candidates
