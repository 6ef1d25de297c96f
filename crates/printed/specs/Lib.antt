pub mod Transcript
pub mod Room
pub mod TranscriptLaws
pub mod LineLaws
pub mod SmallAnswers
pub mod RoomLaws
pub mod Cases
