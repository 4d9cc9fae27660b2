pub mod FieldRules
pub mod PrintRules
