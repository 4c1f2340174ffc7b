mod SlotBits
