pub mod Calls
pub mod Escaped
pub mod Replaced
pub mod Lists
pub mod Limited
pub mod Folded
