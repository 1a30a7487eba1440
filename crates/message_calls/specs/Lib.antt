-- Messages served as the desk's calls (document 02, Ask 1).
pub mod Serving
pub mod Promise
pub mod MessageTable
-- how the code serves
pub mod Finding
