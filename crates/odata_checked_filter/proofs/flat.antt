-- A list of nodes and the tree that it stands for.
pub mod Alone
pub mod Below
pub mod Changes
pub mod Children
pub mod Forests
pub mod KindForms
pub mod Lying
pub mod Nodes
pub mod Numbered
pub mod Parts
pub mod Places
pub mod Standing
