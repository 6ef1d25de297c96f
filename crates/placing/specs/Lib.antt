pub mod GiveLaws
pub mod LentGiveBack
pub mod Order
pub mod OrderLaws
pub mod Put
pub mod PutLaws
pub mod Room
