pub mod Told
pub mod Analysed
pub mod Nodes
pub mod Described
pub mod Spans
pub mod Blamed
pub mod Positions
