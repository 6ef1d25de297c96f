pub mod RowAnswers
