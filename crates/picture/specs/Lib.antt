pub mod Writing
pub mod Decoding
