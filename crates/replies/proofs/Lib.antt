-- The theorems about replies.
pub mod ReplyTexts
pub mod Answering
pub mod Fitting
pub mod Telling
pub mod RefusedRequests
