-- What the program desk_lines does with its input, piece by piece.
pub mod Input
pub mod File
pub mod FileLaws
pub mod FileTable
pub mod AdvanceLaws
pub mod InputLaws
pub mod PassLaws
