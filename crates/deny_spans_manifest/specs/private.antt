pub mod Firsts
pub mod Ignored
pub mod Sections
pub mod Targets
