pub mod Behind
pub mod Replaced
pub mod Wholes
pub mod Rules
