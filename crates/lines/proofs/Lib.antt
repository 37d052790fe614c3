-- The theorems about texts.
pub mod Cutting
pub mod Hearing
pub mod Meaning
pub mod Sessions
pub mod ReaderDetermined
pub mod SoundBoards
pub mod Malformed
pub mod Table
