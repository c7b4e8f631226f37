pub mod Reading
pub mod Passed
pub mod Rules
pub mod Holding
pub mod Kept
pub mod Steps
pub mod OrderSteps
pub mod SearchPlaces
