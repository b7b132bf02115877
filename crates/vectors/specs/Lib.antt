pub mod Requests
pub mod Numbers
pub mod Answers
pub mod Replies
pub mod Text
