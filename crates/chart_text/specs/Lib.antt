pub mod Below
pub mod ChartText
pub mod Forms
pub mod HelperForms
pub mod HelperText
pub mod HelperWords
pub mod TextFaults
