-- The text of a line: fields, decimal numbers, hexadecimal bytes, and their laws.
pub mod Text
pub mod Steps
pub mod TextLaws
pub mod DecimalLaws
pub mod HexLaws
pub mod FieldLaws
pub mod TextExamples
pub mod ScanLaws
pub mod BytesLaws
