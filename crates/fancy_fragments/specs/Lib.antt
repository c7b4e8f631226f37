pub mod Leaves
pub mod Settable
pub mod Nodes
pub mod Fragments
pub mod Delegates
