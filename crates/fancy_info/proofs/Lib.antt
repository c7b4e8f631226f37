pub mod Unfolded
pub mod OverParts
pub mod GroupNumbers
pub mod Children
