-- Lines of an input that comes in pieces, and the buffers that a program has for them.
pub mod Lines
pub mod LinesLaws
pub mod BufferLaws
pub mod TurnLaws
