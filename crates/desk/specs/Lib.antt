-- The desk (document 01, Part 5).
pub mod Requests
pub mod Desk
pub mod Reads
pub mod Press
pub mod Demand1
pub mod Demand1Bytes
pub mod Demand2
pub mod No8106
pub mod CallLines
pub mod CallTable
pub mod SeveralTable
pub mod PressTable
pub mod ArgumentTable
pub mod FirstLine
