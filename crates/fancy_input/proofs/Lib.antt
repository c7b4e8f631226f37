pub mod BlockLaws
pub mod PieceLaws
