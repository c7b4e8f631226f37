pub mod EasyWays
pub mod Settled
pub mod Uniform
pub mod Begun
pub mod Successive
