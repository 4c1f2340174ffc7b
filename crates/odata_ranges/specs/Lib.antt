pub mod Faults
pub mod Kept
pub mod Owners
pub mod Ranges
pub mod Reach
pub mod Storable
pub mod Within
pub mod private
