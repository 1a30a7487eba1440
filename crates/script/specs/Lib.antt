-- What the lines of a script print and do (docs/DESK-LINES.md), and that it is what the ledger machine answers.
pub mod Script
pub mod Sizes
pub mod ScriptLaws
pub mod RowsLaws
pub mod LineLaws
pub mod FillLaws
pub mod LedgerScript
pub mod LedgerScriptLaws
pub mod ScriptExamples
