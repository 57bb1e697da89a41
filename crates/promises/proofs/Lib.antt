-- Theorems of specs/ that rest on others which a must-fail edit makes false: each under the name of its file there, before each the files
-- that it stands on.
pub mod Frames
pub mod Update
pub mod Queries
pub mod Promise
pub mod Example
pub mod Failures
pub mod Gives
pub mod Kept
