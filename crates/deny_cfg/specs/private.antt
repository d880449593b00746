pub mod FirstSpans
pub mod LabelSpans
pub mod PolicyText
pub mod Warnings
