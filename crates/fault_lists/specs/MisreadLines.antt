pub mod Misread
