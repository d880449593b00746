pub mod EntryNumbers
pub mod Features
pub mod DiagWriter
