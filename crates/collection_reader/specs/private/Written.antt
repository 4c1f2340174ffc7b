-- Bytes of a document over which lines are written.
use Rattle.std.specs.Prelude.{◌≡◌, ℕ, ◌≤◌, List, ◌++◌, length, take, drop, slice_range}
use Rattle.collection_reader.specs.private.ItemText.{Scanned, steps}

-- Of the bytes `first` those up to `from` were taken, with a scan that began at `s`; what is put for them stands at the
-- front up to `to`, and then from `kept` up to `from`. The rest stands as it did.
pub record IsWritten (s : Scanned) (first bytes : List ℕ) (now : Scanned) (to kept from : ℕ) : Type 0 where
  pub order : (to ≤ kept) × (kept ≤ from) × (from ≤ length first)
  pub long : length bytes ≡ length first
  pub rest : drop from bytes ≡ drop from first
  pub is : now ≡ (steps s (take from first)).scanned
  pub put : take to bytes ++ slice_range bytes kept from ≡ (steps s (take from first)).put
