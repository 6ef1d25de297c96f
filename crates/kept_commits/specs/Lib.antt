pub mod KeptLimits
pub mod Early
pub mod KeptStored
