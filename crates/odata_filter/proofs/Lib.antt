mod RowLemmas
mod RunLemmas
