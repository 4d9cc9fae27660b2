pub mod BadColumns
pub mod SheetsWords
