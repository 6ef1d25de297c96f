pub mod Parts
pub mod Gone
pub mod GoneLaws
pub mod Within
pub mod WithinLaws
pub mod PassLaws
