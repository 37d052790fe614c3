-- The laws of a list that a loop fills, and of words and bytes.
pub mod Filling
pub mod Words
