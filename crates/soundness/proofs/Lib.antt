pub mod HeldLaws
pub mod RelayLaws
pub mod ShardLaws
