pub mod Found
pub mod Literals
pub mod FirstPlace
pub mod Spelled
pub mod Replaced
pub mod InTurn
pub mod Limited
pub mod Folded
