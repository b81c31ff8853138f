pub mod Numbers
pub mod Numbered
pub mod Accepted
pub mod Answered
pub mod Rule
pub mod Seen
pub mod Promised
pub mod Values
