pub mod Boards
pub mod Answering
