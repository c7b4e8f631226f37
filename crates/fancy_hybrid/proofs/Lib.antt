pub mod Answered
mod CellLaws
mod Leftmost
mod LookLaws
mod Nodes
mod RangeLaws
