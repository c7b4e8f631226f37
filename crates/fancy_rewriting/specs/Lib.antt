pub mod Contexts
pub mod Rewriting
pub mod Counterexamples
