pub mod ChooseLaws
pub mod LoadLaws
pub mod OrderLaws
pub mod PutLaws
pub mod RoomLaws
pub mod SetLaws
