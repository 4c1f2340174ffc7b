-- What is reported about a document of whose items none was judged, and items whose verdicts are known. Private clauses
-- alone cite this.
use Rattle.std.specs.Prelude.{◌≡◌, ℕ, List, Bool}
use Rattle.line_filter.specs.Kept.{Items}
use Rattle.row_judges.specs.RowJudgment.{judgment_where}
use Rattle.line_filter.specs.ItemIndexes.{IndexedItem, indexed_items}
use Rattle.row_judges.specs.declared.bad_row.BadRow.{BadRow}
use Rattle.filter_runs.specs.Collection.{IsNoCollection}
use Rattle.filter_runs.specs.declared.run_fault.RunFault.{RunFault}

-- that it is not a collection, or that an allocation failed before its first item
abbrev pub IsUnjudgedBy : List ℕ → RunFault → Type 0
IsUnjudgedBy document RunFault.NotACollection = IsNoCollection document
IsUnjudgedBy document (RunFault.Memory line) = line ≡ 0
IsUnjudgedBy document _ = ⊥

-- the items of a collection by their verdicts alone, each at its index
abbrev pub known_items : List Bool → Items (IndexedItem Bool) BadRow
known_items flags = indexed_items (λ kept judgment. judgment ≡ judgment_where kept) flags
