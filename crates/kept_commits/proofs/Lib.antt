pub mod TokenLaws
pub mod VerdictLaws
pub mod KeepLaws
