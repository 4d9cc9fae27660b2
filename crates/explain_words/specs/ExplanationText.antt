pub mod Asked
pub mod Text
pub mod Notes
pub mod Closing
pub mod ExplanationTexts
pub mod Laws
