pub mod Marks
pub mod MarkLaws
pub mod PackedLaws
pub mod TableLaws
pub mod Passing
pub mod SumLaws
pub mod RefusalLaws
