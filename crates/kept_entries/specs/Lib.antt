pub mod KeptEntries
pub mod KeptEntryLaws
