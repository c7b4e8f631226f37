pub mod Ready
pub mod Means
pub mod Bounds
pub mod Steppers
pub mod StepperSteps
pub mod Founds
pub mod Scratches
pub mod Attempts
