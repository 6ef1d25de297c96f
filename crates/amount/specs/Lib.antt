-- Typed amounts. Amount and Writing are the definitions that the two contracts cite, over Digits.
-- What is proved of them: Grammar, which texts are taken; AmountTheorems, that the number is right; in proofs/, RoundTrip, that reading undoes writing.
-- The paper's starred cases stand in one table with those on other subjects, in the crate histories. The others are for the proofs of the code.
pub mod Digits
pub mod Amount
pub mod Writing
pub mod Grammar
pub mod AmountTheorems
pub mod Steps
pub mod DigitLaws
pub mod DecimalLaws
pub mod AmountLaws
pub mod StepLaws
pub mod ReadLaws
pub mod WriteLaws
