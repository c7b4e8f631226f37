pub mod OldLaws
pub mod CellLaws
pub mod HeldLaws
pub mod JoinLaws
pub mod StateLaws
