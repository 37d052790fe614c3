-- The laws of writing and reading a picture.
pub mod Parts
pub mod LineByLine
pub mod FrameByFrame
pub mod Decoding
pub mod Promised
