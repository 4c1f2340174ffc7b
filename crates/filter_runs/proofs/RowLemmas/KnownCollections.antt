-- What a run over known verdicts says of the collection that they are of.
use Rattle.std.proofs.Common.{◌≡◌, ℕ, List, Bool, Option, Result, Ok, Err, inl, inr, ap, IfOk}
use Rattle.std.specs.Prelude.{IsSomeAnd, IsUtf8, IfErr, option_and_then}
use Rattle.serde_json.specs.Data.{Data, object}
use Rattle.serde_json.specs.Find.{as_array}
use Rattle.edm_values.specs.MomentParts.{MomentParts}
use Rattle.collection_items.specs.JudgedItems.{AreJudged, IsArrayIn}
use Rattle.line_filter.specs.Growth.{Writes}
use Rattle.line_filter.specs.Kept.{Filters, StopsHeld}
use Rattle.line_filter.specs.ItemIndexes.{ItemJudge}
use Rattle.line_filter.specs.declared.tally.Tally.{Tally}
use Rattle.odata_checked_filter.specs.Filter.{Filter}
use Rattle.row_judges.specs.RowJudgment.{JudgesValue, judgment_where}
use Rattle.row_judges.specs.declared.bad_row.BadRow.{BadRow}
use Rattle.filter_runs.specs.Collection.{IsCollectionOf, OfCollection, StopsCollection}
use Rattle.filter_runs.specs.RunStops.{run_stop}
use Rattle.filter_runs.specs.private.Collection.{known_items}
use Rattle.filter_runs.specs.declared.run_fault.RunFault.{RunFault}
use Rattle.filter_runs.proofs.RowLemmas.KnownItems.{Filters-known, StopsOn-known, StopsWithin-known, never_at_fault}

-- a text that has such an array is a collection of its items
pub collection_in : (document : List ℕ) (items : List Data) → IsUtf8 document → IsArrayIn document items → IsCollectionOf document items
collection_in document items utf8 (found, is_read, has) = record {
  json = object found;
  is_json = (utf8, is_read);
  value = ap (option_and_then as_array) has;
}

module _ (filter : Filter) (now : MomentParts) (document : List ℕ) (flags : List Bool) where
  abbrev pub Judge : ItemJudge Data BadRow
  Judge = JudgesValue filter now

  -- the verdicts are those of a collection's items
  abbrev pub AreOf : List Data → Type 0
  AreOf items = AreJudged (λ json kept. JudgesValue filter now json (judgment_where kept)) items flags

  module _ (items : List Data) (is : IsCollectionOf document items) (are : AreOf items) (text : List ℕ) where
    known_filtered : (tally : Tally) → Filters (known_items flags) text tally → OfCollection filter now document (λ held. Filters held text tally)
    known_filtered tally filtered = (items, is, Filters-known Judge items flags are text tally filtered)

    known_stopped : (fault : RunFault) → IsSomeAnd (run_stop fault) (StopsHeld (known_items flags) text) → StopsCollection filter now document text fault
    known_stopped RunFault.NotACollection stops = absurd stops
    known_stopped (RunFault.Json line) stops = never_at_fault Judge items flags are text line BadRow.NotJson stops
    known_stopped (RunFault.LineTooLong line) stops = absurd stops.found
    known_stopped (RunFault.Read line) stops = absurd stops
    known_stopped (RunFault.Row line fault) stops = never_at_fault Judge items flags are text line (BadRow.NoEntity fault) stops
    known_stopped (RunFault.Arithmetic line fault) stops = never_at_fault Judge items flags are text line (BadRow.NoValue fault) stops
    known_stopped RunFault.Write stops = (items, is, StopsWithin-known Judge items flags are text stops)
    known_stopped (RunFault.Memory line) (inl never) = absurd never
    known_stopped (RunFault.Memory line) (inr stops) = inr (items, is, StopsOn-known Judge items flags are text line stops)

  module _ (old new : Option (List ℕ)) (utf8 : IsUtf8 document) (known : (items : List Data) × IsArrayIn document items × AreOf items) where
    pub filtered_so : (result : Result Tally RunFault) → IfOk result (λ tally. Writes old new (λ text. Filters (known_items flags) text tally))
        → IfOk result (λ tally. Writes old new (λ text. OfCollection filter now document (λ items. Filters items text tally)))
    filtered_so (Ok tally) (text, wrote, filtered) = (text, wrote, known_filtered known.0 (collection_in document known.0 utf8 known.1) known.2 text tally filtered)
    filtered_so (Err fault) filtered = tt

    pub stopped_so : (result : Result Tally RunFault) → IfErr result (λ fault. Writes old new (λ text. IsSomeAnd (run_stop fault) (StopsHeld (known_items flags) text)))
        → IfErr result (λ fault. Writes old new (λ text. StopsCollection filter now document text fault))
    stopped_so (Ok tally) stopped = tt
    stopped_so (Err fault) (text, wrote, stops) = (text, wrote, known_stopped known.0 (collection_in document known.0 utf8 known.1) known.2 text fault stops)
