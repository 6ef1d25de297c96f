pub mod Elsewhere
pub mod ElsewhereLaws
pub mod Parts
