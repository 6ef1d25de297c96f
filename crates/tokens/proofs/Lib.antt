pub mod AttenuateLaws
pub mod GrantLaws
pub mod LookLaws
pub mod NewTokenLaws
pub mod RevokeLaws
pub mod RowAnswers
pub mod ScopeLaws
pub mod WalkLaws
