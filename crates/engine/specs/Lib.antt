-- The definitions that the contracts cite, a file for each of src/, and worked examples of them.
pub mod Shell
pub mod ShellExamples
pub mod World
pub mod Reply
pub mod Command
pub mod CommandExamples
pub mod Storing
pub mod StoringExamples
pub mod Running
pub mod Exec
pub mod Short
pub mod Stream
pub mod Frame
pub mod Feed
pub mod Api
pub mod ApiExamples
