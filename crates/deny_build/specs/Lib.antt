-- What the contracts of this crate cite.
pub mod Joined
pub mod JoinedChecks
pub mod OneCrate
pub mod ScanningOf
pub mod private
