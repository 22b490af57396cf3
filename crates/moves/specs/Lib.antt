pub mod WriteOut
pub mod MoveSteps
pub mod InAndOut
