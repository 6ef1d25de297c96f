pub mod Results
pub mod DeskAfter
