-- One token by value: the requests to it, its states and the answers (document 01, Part 5).
pub mod Answers
pub mod Lines
pub mod Codes
pub mod States
pub mod Deciding
pub mod StatesLaws
pub mod DecidingLaws
pub mod SetCases
