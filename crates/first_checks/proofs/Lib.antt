pub mod EarlyLaws
