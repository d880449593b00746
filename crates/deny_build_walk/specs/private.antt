pub mod Crowded
pub mod Noted
pub mod Taking
pub mod Walking
