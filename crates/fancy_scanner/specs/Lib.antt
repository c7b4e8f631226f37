pub mod Among
pub mod Kept
pub mod Reuse
pub mod Limits
pub mod Scanning
pub mod Scans
pub mod Searched
