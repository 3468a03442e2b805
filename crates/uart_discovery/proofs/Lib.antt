mod Digits
pub mod Tokens
mod Words
