-- What the functions that change an arena say to their callers. No public contract cites these files.
pub mod Taken
pub mod RoomAt
