pub mod FitLaws
pub mod Lent
pub mod RowSetLaws
