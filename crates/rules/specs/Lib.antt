-- The rules of document 01. A definition's file is named for the section that it renders. What is proved of the rules stands in proofs/, in
-- Theorems and Laws.
pub mod Limits
pub mod Numbers
pub mod Fresh
pub mod Tables
pub mod Scope
pub mod Relays
pub mod Rent
pub mod Outcome
pub mod Sound
pub mod VolumeCalls
pub mod TokenCalls
pub mod RelayCalls
pub mod Advance
pub mod SessionCalls
pub mod Commit
pub mod Calls
pub mod Coins
pub mod Numbering
pub mod Used
pub mod Serial
