pub mod Rules
pub mod Facts
pub mod RoadSteps
pub mod EdgeSteps
pub mod Kept
