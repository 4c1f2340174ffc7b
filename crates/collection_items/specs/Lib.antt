pub mod ItemLines
pub mod JudgedItems
pub mod private
