pub mod Built
pub mod NamedGroups
pub mod Replies
pub mod Scanning
