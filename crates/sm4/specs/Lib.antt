-- SM4 (GB/T 32907): what the cipher is, its laws, and the standard's example.
pub mod Sbox
pub mod SboxLaws
pub mod Sm4
pub mod Sm4Laws
pub mod Schedule
pub mod ScheduleLaws
pub mod EncryptLaws
pub mod Sides
pub mod SidesLaws
pub mod Sm4Examples
