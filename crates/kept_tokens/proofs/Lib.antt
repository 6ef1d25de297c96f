pub mod CallLaws
pub mod ClearLaws
pub mod RowLaws
