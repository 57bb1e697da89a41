-- The engine's laws over whole calls, with no code of their own.
pub mod Rooms
pub mod Carry
pub mod Bounds
pub mod Split
pub mod Cut
pub mod Front
pub mod Whole
pub mod Query
pub mod Piece
