pub mod Words
pub mod Copies
pub mod Xor
pub mod Register
pub mod Tables
pub mod Slices
pub mod Headers
