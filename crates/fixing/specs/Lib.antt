pub mod FixSteps
pub mod StepLaws
