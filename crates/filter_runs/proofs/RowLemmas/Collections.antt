-- What a run over the items of a document says of the collection that it is.
use Rattle.std.proofs.Common.{◌≡◌, ◌∙◌, ℕ, List, [], Option, None, Some, inl, inr, refl, sym, ap, subst, map, option_map}
use Rattle.std.specs.Prelude.{IsSomeAnd, Vec}
use Rattle.std.specs.Borrow.{Bor}
use Rattle.std.specs.declared.alloc.Global.{Global}
use Rattle.std.proofs.KnownBytes.{Appends-nil}
use Rattle.serde_json.specs.Data.{Data}
use Rattle.serde_json.specs.View.{items_of, items_view, view}
use Rattle.serde_json.specs.declared.value.Value.{Value}
use Rattle.edm_values.specs.MomentParts.{MomentParts}
use Rattle.csdl_schema.specs.JsonText.{IsJsonOf}
use Rattle.line_filter.specs.Growth.{Writes}
use Rattle.line_filter.specs.Kept.{Filters, StopsHeld}
use Rattle.line_filter.specs.ItemIndexes.{ItemJudge, indexed_items}
use Rattle.line_filter.specs.declared.run_stop.RunStop.{RunStop}
use Rattle.line_filter.specs.declared.tally.Tally.{Tally}
use Rattle.odata_checked_filter.specs.Filter.{Filter}
use Rattle.filter_runs.specs.Collection.{IsCollectionOf, OfCollection, StopsCollection, array_of}
use Rattle.row_judges.specs.RowJudgment.{JudgesValue}
use Rattle.filter_runs.specs.RunStops.{run_stop}
use Rattle.row_judges.specs.declared.bad_row.BadRow.{BadRow}
use Rattle.filter_runs.specs.private.Collection.{IsUnjudgedBy}
use Rattle.filter_runs.specs.declared.run_fault.RunFault.{RunFault}
use Rattle.filter_runs.proofs.RowLemmas.Renamed.{Filters-renamed, StopsAt-renamed, StopsOn-renamed, StopsWithin-renamed}

module _ (filter : Filter) (now : MomentParts) (document : List ℕ) (values : List Value) (is : IsCollectionOf document (map view values)) (text : List ℕ) where
  abbrev pub judge : ItemJudge Value BadRow
  judge item = JudgesValue filter now (view item)

  pub collection_filtered : (tally : Tally) → Filters (indexed_items judge values) text tally → OfCollection filter now document (λ items. Filters items text tally)
  collection_filtered tally filtered = (map view values, is, Filters-renamed (JudgesValue filter now) view values text tally filtered)

  -- the stop that a fault reports is one of the items
  stopped_by : (fault : RunFault) → IsSomeAnd (run_stop fault) (StopsHeld (indexed_items judge values) text) → StopsCollection filter now document text fault
  stopped_by RunFault.NotACollection stops = absurd stops
  stopped_by (RunFault.Json line) stops = absurd stops.found
  stopped_by (RunFault.LineTooLong line) stops = absurd stops.found
  stopped_by (RunFault.Read line) stops = absurd stops
  stopped_by (RunFault.Row line fault) stops = (map view values, is, StopsAt-renamed (JudgesValue filter now) view values text line _ stops)
  stopped_by (RunFault.Arithmetic line fault) stops = (map view values, is, StopsAt-renamed (JudgesValue filter now) view values text line _ stops)
  stopped_by RunFault.Write stops = (map view values, is, StopsWithin-renamed (JudgesValue filter now) view values text stops)
  stopped_by (RunFault.Memory line) (inl never) = absurd never
  stopped_by (RunFault.Memory line) (inr stops) = inr (map view values, is, StopsOn-renamed (JudgesValue filter now) view values text line stops)

  pub collection_stopped : (fault : RunFault) (stop : RunStop BadRow) → run_stop fault ≡ Some stop → StopsHeld (indexed_items judge values) text stop → StopsCollection filter now document text fault
  collection_stopped fault stop reported stops = stopped_by fault (subst (λ s. IsSomeAnd s (StopsHeld (indexed_items judge values) text)) (sym reported) stops)

-- none of the items was judged
pub unjudged : (filter : Filter) (now : MomentParts) (document : List ℕ) (old : Option (List ℕ)) (fault : RunFault) → IsUnjudgedBy document fault
    → Writes old old (λ text. StopsCollection filter now document text fault)
unjudged filter now document old RunFault.NotACollection is = ([], Appends-nil old, (is, refl))
unjudged filter now document old (RunFault.Memory line) is = ([], Appends-nil old, inl (is, refl))
unjudged filter now document old (RunFault.Json line) is = absurd is
unjudged filter now document old (RunFault.Row line fault) is = absurd is
unjudged filter now document old (RunFault.Arithmetic line fault) is = absurd is
unjudged filter now document old (RunFault.LineTooLong line) is = absurd is
unjudged filter now document old (RunFault.Read line) is = absurd is
unjudged filter now document old RunFault.Write is = absurd is

-- the array was not found
pub no_array : (filter : Filter) (now : MomentParts) (document : List ℕ) (old : Option (List ℕ)) (json : Data) (found : Option (Bor (Vec Value Global))) → IsJsonOf document json
    → option_map (λ items. items_view items.now.items) found ≡ array_of json → found ≡ None
    → Writes old old (λ text. StopsCollection filter now document text RunFault.NotACollection)
no_array filter now document old json found is_json same none =
    ([], Appends-nil old, (inr (json, is_json, sym same ∙ ap (option_map (λ items. items_view items.now.items)) none), refl))

-- the array was found, and these are its values
pub collection_of : (document : List ℕ) (json : Data) (found : Option (Bor (Vec Value Global))) (items : Bor (Vec Value Global)) (values : List Value) → IsJsonOf document json
    → option_map (λ v. items_view v.now.items) found ≡ array_of json → found ≡ Some items → values ≡ items.now.items → IsCollectionOf document (map view values)
collection_of document json found items values is_json same some are = record {
  json = json;
  is_json = is_json;
  value = sym same ∙ ap (option_map (λ v. items_view v.now.items)) some ∙ ap (λ l. Some (items_of (map view l))) (sym are);
}
