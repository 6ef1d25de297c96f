pub mod SurveyLaws
pub mod WithinRows
