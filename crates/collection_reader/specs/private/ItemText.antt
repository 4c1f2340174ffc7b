-- The lines of a document's items, as a scan over it gives them.
use Rattle.std.specs.Prelude.{◌≡◌, ℕ, ◌+◌, ◌≤◌, List, [], ◌∷◌, ◌++◌, Bool, true, false, Option, None, Some, vec_capacity, vec_len, if◌then◌else◌}
use Rattle.collection_reader.specs.declared.document.Document.{Document}
use Rattle.collection_reader.specs.declared.item_scan.Phase.{Phase}
use Rattle.collection_reader.specs.declared.item_scan.Scan.{Scan}
use Rattle.collection_reader.specs.declared.item_scan.Step.{Step}
use Rattle.collection_reader.specs.declared.nest.Mode.{Mode}
use Rattle.collection_reader.specs.private.EnvelopeTest.{is_envelope}
use Rattle.collection_reader.specs.private.ItemScan.{back_step, front_step, item_step}

-- how far the scan has come, and what came before and after the items
pub record Scanned : Type 0 where
  pub scan : Scan
  pub front : List ℕ
  pub back : List ℕ

abbrev pub scanned : Document → Scanned
scanned document = record { scan = document.scan; front = document.front.items; back = document.back.items }

-- nothing has come
abbrev pub unread : Scanned
unread = record {
  scan = record {
    phase = Phase.Front;
    nest = record { depth = 0; mode = Mode.Outside };
    name = 0;
    is_named = false;
  };
  front = [];
  back = [];
}

-- room for so many bytes more around the items
abbrev pub HasRoom : Document → ℕ → Type 0
HasRoom document count =
    (vec_len document.front + count ≤ vec_capacity document.front)
    × (vec_len document.back + count ≤ vec_capacity document.back)

-- how far the scan has come with more bytes, and what is put for them
pub record Moved : Type 0 where
  pub scanned : Scanned
  pub put : List ℕ

abbrev pub bytes_of : Option ℕ → List ℕ
bytes_of None = []
bytes_of (Some byte) = byte ∷ []

abbrev pub after_front : Scanned → ℕ → Step → Moved
after_front s byte step =
    record {
      scanned = record { scan = step.scan; front = s.front ++ byte ∷ []; back = s.back };
      put = bytes_of step.put;
    }

abbrev pub after_back : Scanned → ℕ → Step → Moved
after_back s byte step =
    record {
      scanned = record { scan = step.scan; front = s.front; back = s.back ++ byte ∷ [] };
      put = bytes_of step.put;
    }

-- the bracket that closes the array is the first byte after the items
abbrev pub back_from : Phase → List ℕ → ℕ → List ℕ
back_from Phase.Back back byte = back ++ byte ∷ []
back_from _ back byte = back

abbrev pub after_item : Scanned → ℕ → Step → Moved
after_item s byte step = record {
  scanned = record { scan = step.scan; front = s.front; back = back_from step.scan.phase s.back byte };
  put = bytes_of step.put;
}

abbrev pub step_at : Phase → Scanned → ℕ → Moved
step_at Phase.Front s byte = after_front s byte (front_step s.scan s.front byte)
step_at Phase.Back s byte = after_back s byte (back_step s.scan byte)
step_at Phase.Over s byte = record { scanned = s; put = [] }
step_at _ s byte = after_item s byte (item_step s.scan byte)

-- with one more byte
unfoldable pub step : Scanned → ℕ → Moved
step s byte = step_at s.scan.phase s byte

-- with more bytes
unfoldable pub steps : Scanned → List ℕ → Moved
steps s [] = record { scanned = s; put = [] }
steps s (byte ∷ bytes) =
    record {
      scanned = (steps (step s byte).scanned bytes).scanned;
      put = (step s byte).put ++ (steps (step s byte).scanned bytes).put;
    }

-- at the end of the document nothing need be put
abbrev pub ends_well : Phase → List ℕ → List ℕ → Bool
ends_well Phase.Over front back = true
ends_well Phase.Back front back = is_envelope front back
ends_well _ front back = false

abbrev pub is_collection : Scanned → Bool
is_collection s = ends_well s.scan.phase s.front s.back

-- what is put there: a byte that no text has, where it is no collection
abbrev pub end_of : Scanned → List ℕ
end_of s = if is_collection s then [] else 255 ∷ []

-- what is put for the rest of a document
unfoldable pub text_left : Scanned → List ℕ → List ℕ
text_left s bytes =
    let moved = steps s bytes in
    moved.put ++ end_of moved.scanned

-- more bytes are put as they are, and change nothing
abbrev pub Passes : Scanned → List ℕ → Type 0
Passes s bytes = steps s bytes ≡ record { scanned = s; put = bytes }
