pub mod SixWords
