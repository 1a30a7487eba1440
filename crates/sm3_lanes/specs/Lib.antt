-- Four SM3 hashes side by side.
pub mod Lanes
pub mod LaneLaws
pub mod MessageLaws
pub mod FourLaws
