pub mod KeptAnswers
