-- What the functions that grant say to their callers. No public contract cites these files.
pub mod Ways
pub mod Trims
pub mod Relinks
