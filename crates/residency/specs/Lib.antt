pub mod Opening
pub mod CallLaws
