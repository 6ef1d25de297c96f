-- The laws that the proofs of the functions are found by, and what is promised of writing: that reading undoes it.
pub mod CountAnswers
pub mod WriteAnswers
pub mod RoundTrip
