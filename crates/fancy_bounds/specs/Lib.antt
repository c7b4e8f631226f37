pub mod StartsBegun
pub mod Successive
