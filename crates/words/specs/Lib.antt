-- What the layers above share: numbers in bytes, 32-bit words, tests on lists, tables, exactness, and the codes of Parts 1 and 2.
pub mod Bytes
pub mod BytesLaws
pub mod PutLaws
pub mod Words
pub mod WordsLaws
pub mod Lists
pub mod ListsLaws
pub mod SumLaws
pub mod SwapLaws
pub mod ByteBitsLaws
pub mod Search
pub mod Entries
pub mod Exactly
pub mod Codes
pub mod Output
pub mod OutputLaws
pub mod BoolLaws
