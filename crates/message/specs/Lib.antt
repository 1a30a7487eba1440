-- Messages of GM/T 0021-2012, Annex D (document 02, Ask 1).
pub mod Message
pub mod Reading
pub mod Writing
pub mod Promise
pub mod FormTable
-- how the code reads
pub mod Walking
pub mod Lending
pub mod FrameFacts
pub mod WalkLaws
pub mod FrameLaws
pub mod MacLaws
