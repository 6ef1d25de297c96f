pub mod ResultLaws
pub mod TestLoop
pub mod DeskAfterLaws
