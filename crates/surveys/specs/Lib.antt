pub mod RowLimits
pub mod Survey
pub mod SurveyedLaws
