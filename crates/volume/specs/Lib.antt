pub mod Open
pub mod Sound
pub mod Passes
pub mod OpenSteps
pub mod Opened
pub mod Repeats
