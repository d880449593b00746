pub mod Made
pub mod MetadataText
pub mod PolicyText
