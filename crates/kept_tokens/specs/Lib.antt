pub mod KeptTokens
pub mod KeptTokenLaws
pub mod Calls
