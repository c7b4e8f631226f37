pub mod Sized
pub mod Infos
pub mod NodeCounts
