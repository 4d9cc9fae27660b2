pub mod Chart
pub mod Field
pub mod Headings
pub mod Levels
pub mod Literal
pub mod Literals
pub mod Name
pub mod Spacings
