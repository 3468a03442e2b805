pub mod Sections
pub mod Marks
