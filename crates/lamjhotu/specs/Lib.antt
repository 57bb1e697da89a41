-- The definitions that the contracts cite, and the laws of the record's bytes.
pub mod State
pub mod StateLaws
pub mod PieceLaws
pub mod Calls
pub mod CallLaws
