mod Faults
mod NeededOperands
