-- What the functions that check a call say to it. No public contract of a call cites this file.
pub mod Targets
