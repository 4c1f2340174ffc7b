-- Definitions that private clauses alone cite.
pub mod Depths
pub mod Functions
pub mod LeafText
pub mod PiecesView
pub mod PrinterFrames
pub mod SqlPrinter
