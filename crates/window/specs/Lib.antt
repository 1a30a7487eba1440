-- Steps and windows (document 01, Part 3): candidates, the single and the pair check, what they mean, and the set cases.
pub mod Window
pub mod Range
pub mod WindowLaws
pub mod Check
pub mod PasswordAt
pub mod PasswordAtLaws
pub mod TokenCheck
pub mod Asked
pub mod Goal
pub mod GoalLaws
pub mod Sweep
pub mod WindowTable
pub mod CountTable
pub mod StepPasswords
