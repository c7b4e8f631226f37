pub mod Tasks
pub mod MemoRuns
pub mod Memos
pub mod Sound
pub mod Stops
pub mod TrailingNewlines
pub mod Outcomes
pub mod SearchLimits
