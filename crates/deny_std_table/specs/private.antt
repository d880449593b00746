pub mod Cursor
pub mod Draft
pub mod Entries
pub mod Names
pub mod Reading
pub mod Spans
