pub mod QuotaLaws
pub mod PlaceLoops
pub mod SizeLaws
pub mod CommitLaws
pub mod CheckLaws
pub mod StoreLaws
