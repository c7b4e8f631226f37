pub mod Cutoffs
pub mod Cutting
pub mod Growing
pub mod Naming
pub mod Replacing
pub mod Tokenizing
