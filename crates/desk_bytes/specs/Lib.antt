pub mod Layout
pub mod Writing
pub mod Written
