-- The walk over the items of an array: what it has read fits, and the fault at which it stops is the first.
use Rattle.std.proofs.Common.{◌≡◌, ℕ, zero, suc, ◌<◌, ◌≤◌, List, [], ◌∷◌, ◌++◌, Bool, length, Some, None, map, refl, ap, ◌∙◌, sym, subst, arith}
use Rattle.std.specs.Prelude.{decimal}
use Rattle.serde_json.specs.Data.{Data, Items, array, depth, item, items_depth, no_items}
use Rattle.serde_json.specs.Find.{get_item}
use Rattle.json_room.specs.private.ItemTokens.{append_items}
use Rattle.edm_values.specs.declared.value.Value.{Value}
use Rattle.csdl_schema.specs.ExprType.{single, collection, SingleType}
use Rattle.csdl_schema.specs.SchemaModel.{Slots}
use Rattle.edm_entities.specs.Fits.{FitsFound, FitsType}
use Rattle.edm_entities.specs.FitsPrimitive.{Flaw}
use Rattle.edm_entities.specs.Row.{items_of, val_of}
use Rattle.edm_entities.specs.RowFaults.{Path, IsFoundFault, IsValueFault}
use Rattle.edm_entities.specs.private.Faults.{IsFaultOf, IsBelow}
use Rattle.edm_entities.specs.private.Walk.{FitList}
use Rattle.edm_entities.specs.declared.flaw.ReadFault.{ReadFault}
use Rattle.edm_entities.proofs.FitLemmas.RowFaultRefuses.{item_at}
use Rattle.edm_entities.proofs.SlotLemmas.FaultsBelow.{fault_below}

-- how many items there are
abbrev pub items_count : Items → ℕ
items_count no_items = 0
items_count (item json jsons) = suc (items_count jsons)

-- an item goes from those that are left to those that were taken
pub append_next : (taken : Items) (json : Data) (left : Items) → append_items (append_items taken (item json no_items)) left ≡ append_items taken (item json left)
append_next no_items json left = refl
append_next (item first taken) json left = ap (item first) (append_next taken json left)

pub append_none : (taken : Items) → append_items taken no_items ≡ taken
append_none no_items = refl
append_none (item first taken) = ap (item first) (append_none taken)

-- it nests less deep than the array
pub item_within : (taken : Items) (json : Data) (left : Items) → depth json ≤ items_depth (append_items taken (item json left))
item_within no_items json left = omega arith
item_within (item first taken) json left = let within = item_within taken json left in omega arith

next_item : (taken : Items) (json : Data) (left : Items) → get_item (items_count taken) (append_items taken (item json left)) ≡ Some json
next_item no_items json left = refl
next_item (item first taken) json left = next_item taken json left

earlier_item : (taken : Items) (left : Items) (k : ℕ) → k < items_count taken → get_item k taken ≡ get_item k (append_items taken left)
earlier_item no_items left k less = absurd (omega (arith, less))
earlier_item (item first taken) left zero less = refl
earlier_item (item first taken) left (suc k) less = earlier_item taken left k (omega (arith, less))

module _ (slots : Slots) (nullable : Bool) (type : SingleType) where
  abbrev Fitting : Data → Value → Type 0
  Fitting json v = FitsFound (Some json) nullable (val_of v slots.properties (single type)) (λ found. FitsType slots nullable (single type) found (val_of v slots.properties (single type)))

  -- one item more
  pub list_push : (taken : Items) (values : List Value) (json : Data) (v : Value)
      → FitList slots nullable type taken values → Fitting json v
      → FitList slots nullable type (append_items taken (item json no_items)) (values ++ v ∷ [])
  list_push no_items [] json v fits here = (here, tt)
  list_push no_items (w ∷ values) json v fits here = absurd fits
  list_push (item first taken) [] json v fits here = absurd fits
  list_push (item first taken) (w ∷ values) json v fits here = (fits.0, list_push taken values json v fits.1 here)

  -- there are as many values as items
  pub as_many_items : (taken : Items) (values : List Value) → FitList slots nullable type taken values → length values ≡ items_count taken
  as_many_items no_items [] fits = refl
  as_many_items no_items (w ∷ values) fits = absurd fits
  as_many_items (item first taken) [] fits = absurd fits
  as_many_items (item first taken) (w ∷ values) fits = ap suc (as_many_items taken values fits.1)

  -- a fault of the next item is the first of the array
  item_fault : (taken : Items) (json : Data) (left : Items) (values : List Value) (path : Path) (flaw : Flaw)
      → FitList slots nullable type taken values
      → IsFoundFault (Some json) nullable path flaw (λ found. IsValueFault slots nullable path (single type) found flaw)
      → IsValueFault slots nullable (decimal (items_count taken) ∷ path) (collection type) (array (append_items taken (item json left))) flaw
  item_fault taken json left values path flaw fits fault =
      record {
        jsons = append_items taken (item json left);
        is_array = refl;
        index = items_count taken;
        faulty = json;
        at_index = next_item taken json left;
        before_fit = λ k before less there.
            item_at slots nullable type taken (items_of slots.properties type (map val_of values)) k before fits (earlier_item taken (item json left) k less ∙ there);
        step_is = refl;
        fault = fault;
      }

  pub list_fault : (taken : Items) (json : Data) (left : Items) (values : List Value) (reported result : ReadFault)
      → FitList slots nullable type taken values → IsBelow (decimal (length values)) reported result
      → IsFaultOf (λ path flaw. IsFoundFault (Some json) nullable path flaw (λ found. IsValueFault slots nullable path (single type) found flaw)) reported
      → IsFaultOf (λ path flaw. IsValueFault slots nullable path (collection type) (array (append_items taken (item json left))) flaw) result
  list_fault taken json left values reported result fits below fault =
      fault_below (λ path flaw. IsFoundFault (Some json) nullable path flaw (λ found. IsValueFault slots nullable path (single type) found flaw))
      (λ path flaw. IsValueFault slots nullable path (collection type) (array (append_items taken (item json left))) flaw)
      (decimal (items_count taken)) reported result (subst (λ (n : ℕ). IsBelow (decimal n) reported result) (as_many_items taken values fits) below)
      (λ path flaw here. item_fault taken json left values path flaw fits here) fault
