pub mod PathLaws
pub mod PairNumberLaws
pub mod PairKeys
pub mod FailedLaws
pub mod BacktrackStackLaws
pub mod MemoLaws
pub mod KeptRunLaws
