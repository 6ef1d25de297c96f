pub mod Groups
pub mod Parts
pub mod NextLaws
pub mod ItemLaws
pub mod Places
