pub mod ChecksumLaws
pub mod ConfigLaws
pub mod Chain
