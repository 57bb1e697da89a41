-- The laws of the definitions.
pub mod States
pub mod Exports
pub mod Shorts
pub mod Pieces
pub mod Fronts
