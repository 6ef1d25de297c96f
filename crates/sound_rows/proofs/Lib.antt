pub mod KeyLaws
pub mod NumberLaws
pub mod PlaceLaws
pub mod PutKeyLaws
pub mod RemainderLaws
pub mod Told
