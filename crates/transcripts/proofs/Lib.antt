pub mod OverLaws
pub mod ReplayLaws
pub mod GroupLaws
pub mod ReplayAnswers
