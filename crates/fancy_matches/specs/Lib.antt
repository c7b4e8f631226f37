pub mod Listing
pub mod Matchers
