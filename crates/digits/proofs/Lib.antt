-- The laws of digits, and of bytes put into a text.
pub mod Ranges
pub mod DigitRuns
pub mod Reading
pub mod Capitals
pub mod NumbersFound
pub mod Putting
pub mod Counts
