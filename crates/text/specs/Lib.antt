pub mod Text
pub mod Scan
pub mod Plain
pub mod PathLaws
pub mod PlainLaws
pub mod TextLaws
pub mod Cases
