pub mod Keys
pub mod Marks
pub mod MarkLaws
