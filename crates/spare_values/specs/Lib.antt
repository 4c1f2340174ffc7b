pub mod Fillers
pub mod StoredTexts
pub mod Written
