pub mod Numbers
pub mod PathKeys
pub mod Places
pub mod FieldLaws
pub mod FillLaws
pub mod MappedLaws
pub mod PlaceNumbers
