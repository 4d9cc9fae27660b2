pub mod EntryText
pub mod Printed
pub mod Unknown
