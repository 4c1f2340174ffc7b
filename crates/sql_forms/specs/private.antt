-- Definitions that private clauses alone cite.
pub mod AskedForms
pub mod Bodies
pub mod Calculated
pub mod Called
pub mod Compared
pub mod Joins
pub mod Lifts
pub mod Lists
