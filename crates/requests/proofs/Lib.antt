-- The laws of lines and of what they ask for.
pub mod LinePlaces
pub mod Unreadable
