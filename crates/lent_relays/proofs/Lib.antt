pub mod HealthLaws
pub mod RowAnswers
pub mod TableLaws
pub mod BackLaws
pub mod LentLaws
pub mod LentTheorems
