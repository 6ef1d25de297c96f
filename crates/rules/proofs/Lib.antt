-- The laws that the proofs of the functions are found by; Theorems says what is proved of the rules, and the proofs stand in Laws.
pub mod MadeLaws
pub mod Laws
pub mod Theorems
