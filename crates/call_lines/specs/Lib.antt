-- What a line of the program desk_lines means: the call or the message that is served, and the text that is printed for it.
pub mod Line
pub mod GivenLaws
pub mod LineLaws
pub mod MessageLineLaws
pub mod FieldsLaws
pub mod PrintingLaws
pub mod AnswerLaws
pub mod LineExamples
