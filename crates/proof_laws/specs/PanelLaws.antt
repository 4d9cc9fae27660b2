pub mod CardTexts
