pub mod Insns
pub mod Programs
pub mod SingleDelegates
pub mod Strategies
