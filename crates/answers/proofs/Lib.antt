-- The laws of answers: an answer is known by its numbers, and nothing is lost where they are padded.
pub mod Determined
pub mod Padded
