pub mod Cells
pub mod Engines
pub mod Patterns
pub mod Translations
