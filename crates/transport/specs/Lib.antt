-- The definitions that the contracts cite, a file for each of src/.
pub mod Port
pub mod Step
