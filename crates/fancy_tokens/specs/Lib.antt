pub mod Tokens
pub mod PatternViews
pub mod Nesting
