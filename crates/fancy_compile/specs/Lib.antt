pub mod AnalysedNodes
pub mod NodeKinds
pub mod GroupTables
pub mod OpenDepths
pub mod Nodes
pub mod Nests
pub mod Compiled
