pub mod CountLaws
pub mod PathLaws
pub mod StoreLaws
pub mod FlagLaws
pub mod KeyLaws
pub mod DownLaws
pub mod UnmarkedLaws
pub mod PutKeyLaws
