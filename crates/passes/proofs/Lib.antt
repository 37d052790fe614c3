-- The laws of passes over chunks and links: what is left to pass, what the words say of the next chunk, and what a
-- search found.
pub mod Standing
pub mod Passing
pub mod Searching
pub mod Undercutting
pub mod Finding
pub mod Tallying
