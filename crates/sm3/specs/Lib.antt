-- SM3 (GB/T 32905-2016): the definition, its laws, and the standard's examples computed.
pub mod Rounds
pub mod Sm3
pub mod PaddingLaws
pub mod Sm3Laws
pub mod JoinedLaws
pub mod Sm3Examples
pub mod GreatLengths
