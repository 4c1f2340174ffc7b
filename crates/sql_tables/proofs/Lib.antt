mod TableLines
mod SlotColumns
