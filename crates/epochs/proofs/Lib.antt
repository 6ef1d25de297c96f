pub mod AdvanceLaws
pub mod ClockLaws
pub mod DueLaws
pub mod HealthLaws
pub mod PayLaws
pub mod SettleLaws
