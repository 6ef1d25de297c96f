pub mod OverLaws
pub mod SizeLaws
pub mod PutLaws
pub mod WriteLaws
