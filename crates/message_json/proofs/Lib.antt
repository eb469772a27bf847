mod Absent
pub mod Each
mod Utf8
pub mod Parts
pub mod Written
pub mod MemberLaws
pub mod QuestionLaws
pub mod RequestLaws
mod Tokens
mod Returned
pub mod ReadBack
pub mod Writable
pub mod ReplyLaws
