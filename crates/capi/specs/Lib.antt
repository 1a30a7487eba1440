-- What the C functions leave in their lent outputs.
pub mod Stored
pub mod StoredLaws
pub mod Checked
pub mod CheckedLaws
pub mod CheckedExamples
pub mod DeskLeft
pub mod DeskLeftLaws
pub mod DeskLeftExamples
pub mod MessageLeft
pub mod MessageLeftLaws
pub mod MessageLeftExamples
