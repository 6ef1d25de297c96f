pub mod OverLaws
pub mod RowLoops
pub mod WritingLaws
pub mod LayoutLaws
