-- Lemmas on rows that are read without a tree.
pub mod Leaves
pub mod Parts
pub mod Passes
pub mod Passing
pub mod Plans
pub mod Properties
pub mod RowTypes
pub mod SlotTexts
pub mod SlotsFilled
pub mod SlotsRead
pub mod SlotsSeen
