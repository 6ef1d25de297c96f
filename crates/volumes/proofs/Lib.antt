pub mod RowAnswers
pub mod CoinLaws
