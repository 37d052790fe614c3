-- What the functions that pass over an arena say to their callers. No public contract cites these files.
pub mod Places
pub mod Tallies
