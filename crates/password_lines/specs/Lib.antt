-- What a line of the password's line program means (document 01, "Line program").
pub mod Line
pub mod Fields
pub mod LineLaws
pub mod LineTable
