-- What is proved of the definitions: Replay has the theorem.
pub mod Example
pub mod SecondLaws
pub mod Replay
pub mod Local
