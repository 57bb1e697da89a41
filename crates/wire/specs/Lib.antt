pub mod Bytes
pub mod Crc
pub mod Table
pub mod Slices
pub mod Header
pub mod Packet
pub mod Lines
