pub mod Held
pub mod EarlyLaws
