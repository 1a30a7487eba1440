-- The row of a token and the table of rows (document 01, Part 4).
pub mod Row
pub mod Table
pub mod Finding
pub mod FindLaws
pub mod FoundLaws
pub mod RowLaws
pub mod RangeLaws
pub mod ReadLaws
pub mod LocateLaws
pub mod WriteLaws
pub mod StoreLaws
pub mod OutsideLaws
pub mod LocalLaws
pub mod LayoutTable
pub mod RangeTable
