-- Lambda operators with a variable and a body.
pub mod Bases
pub mod Bodies
pub mod Faults
