pub mod Record
pub mod Print
