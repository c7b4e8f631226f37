pub mod Held
pub mod OldValues
pub mod CellsView
pub mod View
pub mod Refused
