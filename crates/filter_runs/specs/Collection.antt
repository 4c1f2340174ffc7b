-- What a filter keeps of a collection of entities (OData JSON Format 4.01, section 13).
use Rattle.std.specs.Prelude.{◌≡◌, ◌⊎◌, ℕ, List, [], Option, Some, None, codes, option_and_then}
use Rattle.serde_json.specs.Data.{Data, Items as ItemsData}
use Rattle.serde_json.specs.Find.{as_array, get}
use Rattle.serde_json.specs.View.{items_of}
use Rattle.edm_values.specs.MomentParts.{MomentParts}
use Rattle.csdl_schema.specs.JsonText.{IsJsonOf, IsNoJson}
use Rattle.line_filter.specs.Kept.{Items, StopsOn}
use Rattle.line_filter.specs.ItemIndexes.{IndexedItem, indexed_items}
use Rattle.row_judges.specs.declared.bad_row.BadRow.{BadRow}
use Rattle.filter_runs.specs.declared.run_fault.RunFault.{RunFault}
use Rattle.row_judges.specs.RowJudgment.{JudgesValue}
use Rattle.filter_runs.specs.RunStops.{StopsBy}
use Rattle.odata_checked_filter.specs.Filter.{Filter}

-- the array that a JSON object has as its member `value`; its other members are ignored
abbrev pub array_of : Data → Option ItemsData
array_of json = option_and_then as_array (get (codes "value") json)

-- The document is a JSON object whose member `value` is an array of these items.
pub record IsCollectionOf (document : List ℕ) (items : List Data) : Type 0 where
  pub json : Data
  pub is_json : IsJsonOf document json
  pub value : array_of json ≡ Some (items_of items)

-- the document is no JSON, no object, or an object whose member `value` is no array or is not there
abbrev pub IsNoCollection : List ℕ → Type 0
IsNoCollection document = IsNoJson document ⊎ ((json : Data) × IsJsonOf document json × (array_of json ≡ None))

-- the items, each at its index and judged by the filter
abbrev pub entities_of : Filter → MomentParts → List Data → Items (IndexedItem Data) BadRow
entities_of filter now items = indexed_items (JudgesValue filter now) items

-- the document is a collection, and P holds of its items
abbrev pub OfCollection : Filter → MomentParts → List ℕ → (Items (IndexedItem Data) BadRow → Type 0) → Type 0
OfCollection filter now document P =
    (items : List Data) × IsCollectionOf document items × P (entities_of filter now items)

-- What a fault says of a document and of the text that was written: that it is not a collection; that an allocation
-- failed while it was read, or at an item; or the stop that the fault reports about its items.
abbrev pub StopsCollection : Filter → MomentParts → List ℕ → List ℕ → RunFault → Type 0
StopsCollection filter now document text RunFault.NotACollection = IsNoCollection document × (text ≡ [])
StopsCollection filter now document text (RunFault.Memory line) =
    ((line ≡ 0) × (text ≡ [])) ⊎ OfCollection filter now document (λ items. StopsOn items text line)
StopsCollection filter now document text (RunFault.Row line fault) =
    OfCollection filter now document (λ items. StopsBy items text (RunFault.Row line fault))
StopsCollection filter now document text (RunFault.Arithmetic line fault) =
    OfCollection filter now document (λ items. StopsBy items text (RunFault.Arithmetic line fault))
StopsCollection filter now document text RunFault.Write =
    OfCollection filter now document (λ items. StopsBy items text RunFault.Write)
StopsCollection filter now document text (RunFault.Json line) = ⊥
StopsCollection filter now document text (RunFault.LineTooLong line) = ⊥
StopsCollection filter now document text (RunFault.Read line) = ⊥
