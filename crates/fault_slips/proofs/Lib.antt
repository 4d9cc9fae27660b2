pub mod LineMarks
