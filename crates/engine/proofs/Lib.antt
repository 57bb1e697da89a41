mod Lines
mod Runnings
mod Tables
pub mod Told
pub mod Commands
pub mod Replies
mod Streams
pub mod Tidies
mod Execs
pub mod Storings
pub mod Frames
pub mod Fits
pub mod Feeds
pub mod Apis
pub mod Windows
