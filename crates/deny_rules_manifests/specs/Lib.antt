pub mod ManifestKeys
pub mod Uses
pub mod private
