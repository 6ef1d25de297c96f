pub mod CarryLaws
pub mod ItemAnswers
pub mod PlaceLaws
