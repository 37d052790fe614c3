-- What all turns come to.
pub mod Runs
