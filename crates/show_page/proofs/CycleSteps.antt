pub mod Impulsed
