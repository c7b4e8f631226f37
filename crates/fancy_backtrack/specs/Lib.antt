pub mod Paths
pub mod PairNumbers
pub mod PairKeys
pub mod FailedPairs
pub mod BacktrackStack
pub mod Loops
pub mod Memos
pub mod Bytes
