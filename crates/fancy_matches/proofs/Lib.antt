pub mod Lists
pub mod Searching
pub mod Stepping
pub mod Counting
pub mod Easy
pub mod ThreadsLaws
