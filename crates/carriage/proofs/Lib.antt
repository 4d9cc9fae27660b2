pub mod AskedSteps
pub mod Descents
pub mod StopSteps
