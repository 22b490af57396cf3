pub mod Tests
pub mod TestLaws
pub mod Deciding
pub mod RefusalNumbers
