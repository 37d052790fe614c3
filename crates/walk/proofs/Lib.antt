-- The laws of the check walk as the code makes it.
pub mod Meeting
pub mod Steps
pub mod Counted
