pub mod Made
pub mod Keeps
pub mod Kept
pub mod Counted
pub mod Within
pub mod Fresh
pub mod Cut
pub mod Reasons
