pub mod SlotBits
