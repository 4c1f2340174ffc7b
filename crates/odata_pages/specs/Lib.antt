pub mod Pages
pub mod private
