-- A reader of rows stays one when the marks and sieves of its types are others.
use Rattle.std.proofs.Common.{◌≡◌, ℕ, zero, suc, List, [], ◌∷◌, inr, map, Bool, true, false, Option, None, Some, Vec, Global, IfSome, slice_get, slice_set, refl, sym, ap, ap₂, ◌∙◌, subst, arith}
use Rattle.std.specs.Prelude.{All}
use Rattle.csdl_schema.specs.SchemaModel.{properties_at}
use Rattle.edm_values.specs.declared.sieve.Sieve.{Sieve}
use Rattle.edm_values.specs.declared.value.Value.{Value}
use Rattle.edm_row_plans.specs.Expanded.{slots_at}
use Rattle.edm_entities.specs.ValuesRead.{IsRowValue}
use Rattle.edm_rows.specs.declared.row_cache.Cache.{Cache}
use Rattle.edm_rows.specs.declared.row_cache.LookedUp.{LookedUp}
use Rattle.edm_rows.specs.private.LookedUp.{AreKnown}
use Rattle.edm_rows.specs.HeldSchema.{schema_in}
use Rattle.edm_rows.specs.RowsOfType.{IsSameButKept, TypeMarks, sifted}
use Rattle.edm_rows.specs.declared.row_types.RowSlot.{RowSlot}
use Rattle.edm_rows.specs.declared.row_types.RowType.{RowType}
use Rattle.edm_rows.specs.declared.type_rows.TypeRows.TheInside.{Inside}
use Rattle.edm_rows.specs.private.HeldRows.{AreSameTypes, AreTypesOf, IsRowsOfType, IsSameType, first_slots, keeps_of, marks_at, marks_of, rows_seen, sieves_of}
use Rattle.edm_rows.specs.private.RowSlots.{IsFresh, IsFreshType}
use Rattle.std.proofs.lemmas.List.{length-map}
use Rattle.edm_rows.proofs.SlotMarks.{set_as_was}
use Rattle.edm_rows.proofs.TypesChanged.{first_changed, first_slots_are, first_slots_put, types_some}
use Rattle.edm_rows.proofs.TypesKept.{all_changed, either_changed, same_count}

-- ---- a new reader

first_fresh : (types : List RowType) → ((place : ℕ) → IfSome (slice_get types place) IsFreshType) → (k : ℕ) → IfSome (slice_get (first_slots types) k) IsFresh
first_fresh [] each zero = tt
first_fresh [] each (suc k) = tt
first_fresh (t ∷ ts) each k = each zero k

all_of : {X Y : Type 0} (P : Y → Type 0) (f : X → Y) (xs : List X) → ((k : ℕ) → IfSome (slice_get xs k) (λ x. P (f x))) → All P (map f xs)
all_of P f [] each k d less = absurd (omega (arith, less))
all_of P f (x ∷ xs) each zero d less = each zero
all_of P f (x ∷ xs) each (suc k) d less = all_of P f xs (λ n. each (suc n)) k d (omega (arith, less))

weaker : {X : Type 0} (P Q : X → Type 0) → ((x : X) → P x → Q x) → (o : Option X) → IfSome o P → IfSome o Q
weaker P Q by None holds = tt
weaker P Q by (Some x) holds = by x holds

module _ (types : List RowType) (fresh : (place : ℕ) → IfSome (slice_get types place) IsFreshType) where
  pub none_kept : All (λ marks. All (λ kept. kept ≡ false) marks.kept) (marks_of types)
  none_kept = all_of (λ (marks : TypeMarks). All (λ kept. kept ≡ false) marks.kept) marks_at types (λ k. weaker IsFreshType (λ t. All (λ kept. kept ≡ false) (keeps_of t)) none_marked (slice_get types k) (fresh k))
    where
      none_marked : (t : RowType) → IsFreshType t → All (λ kept. kept ≡ false) (keeps_of t)
      none_marked t each = all_of (λ (kept : Bool). kept ≡ false) (λ (s : RowSlot). s.is_kept) t.slots.items (λ k. weaker IsFresh (λ s. s.is_kept ≡ false) (λ s is. is.0) (slice_get t.slots.items k) (each k))

  pub all_pass : All (λ sieve. sieve ≡ Sieve.All) (map (λ s. s.sieve) (first_slots types))
  all_pass = all_of (λ (sieve : Sieve). sieve ≡ Sieve.All) (λ (s : RowSlot). s.sieve) (first_slots types) (λ k. weaker IsFresh (λ s. s.sieve ≡ Sieve.All) (λ s is. is.1) (slice_get (first_slots types) k) (first_fresh types fresh k))

-- ---- another first type

module _ (rows : Inside) (is : IsRowsOfType rows) (old new : RowType) (at : slice_get rows.types.items 0 ≡ Some old) where
  are : AreTypesOf (schema_in rows.schema) rows.plan rows.types.items
  are = types_some (schema_in rows.schema) rows.plan rows.types.items old at is.types

  pub rows_stay : IsSameType old new → (types : Vec RowType Global) → types.items ≡ slice_set rows.types.items 0 new → IsRowsOfType (record rows { types = types })
  rows_stay same types put =
      let now = subst (λ (l : List RowType). AreTypesOf (schema_in rows.schema) rows.plan l) (sym put) (first_changed (schema_in rows.schema) rows.plan old new same rows.types.items at are) in
      record { is_plan = is.is_plan; types = inr now; known = is.known; ready = λ e. (now, (is.ready e).1) }

  pub slots_before : first_slots rows.types.items ≡ old.slots.items
  slots_before = first_slots_are rows.types.items old at

  pub slots_now : (types : Vec RowType Global) → types.items ≡ slice_set rows.types.items 0 new → first_slots types.items ≡ new.slots.items
  slots_now types put = ap first_slots put ∙ first_slots_put rows.types.items old new at

  pub rows_sifted : IsSameType old new → (types : Vec RowType Global) → types.items ≡ slice_set rows.types.items 0 new → (slot : ℕ) (sieve : Sieve) → keeps_of new ≡ keeps_of old → sieves_of new ≡ sifted (sieves_of old) slot sieve
      → rows_seen (record rows { types = types }) ≡ record (rows_seen rows) { sieves = sifted (rows_seen rows).sieves slot sieve }
  rows_sifted same types put slot sieve kept sieves =
      ap₂ (λ (k : List TypeMarks) (s : List Sieve). record (rows_seen rows) { kept = k; sieves = s })
      (ap marks_of put ∙ set_as_was marks_at rows.types.items 0 new old at (ap₂ (λ (i : ℕ) (k : List Bool). record { type_id = i; kept = k }) same.type_id kept))
      (ap (λ (l : List RowSlot). map (λ s. s.sieve) l) (slots_now types put) ∙ sieves ∙ ap (λ (l : List RowSlot). sifted (map (λ s. s.sieve) l) slot sieve) (sym slots_before))

-- ---- other marks in all types

abbrev first_list : List (List Sieve) → List Sieve
first_list [] = []
first_list (sieves ∷ more) = sieves

first_sieves : (types : List RowType) → map (λ s. s.sieve) (first_slots types) ≡ first_list (map sieves_of types)
first_sieves [] = refl
first_sieves (t ∷ ts) = refl

module _ (rows : Inside) (is : IsRowsOfType rows) (types : Vec RowType Global) (same : AreSameTypes rows.types.items types.items) where
  pub all_stay : IsRowsOfType (record rows { types = types })
  all_stay = record {
    is_plan = is.is_plan;
    types = either_changed (schema_in rows.schema) rows.plan rows.types.items types.items same is.types;
    known = is.known;
    ready = λ e. let ready = is.ready e in (all_changed (schema_in rows.schema) rows.plan rows.types.items types.items same ready.0, ready.1);
  }

  pub all_but_kept : map sieves_of types.items ≡ map sieves_of rows.types.items → IsSameButKept (rows_seen rows) (rows_seen (record rows { types = types }))
  all_but_kept sieves = record {
    schema = refl;
    type_id = refl;
    expansion = refl;
    is_whole = refl;
    slots = length-map types.items marks_at ∙ same_count rows.types.items types.items same ∙ sym (length-map rows.types.items marks_at);
    sieves = first_sieves types.items ∙ ap first_list sieves ∙ sym (first_sieves rows.types.items);
    is_ready = refl;
    value = refl;
  }

-- ---- no types

-- ---- another row

module _ (rows : Inside) (is : IsRowsOfType rows) (cache : Cache) (known : LookedUp) (row : Value) (are_known : AreKnown (schema_in rows.schema) known) where
  -- where it goes on to be ready the row is one of the type
  pub reader_stays : (is_ready : Bool) → AreTypesOf (schema_in rows.schema) rows.plan rows.types.items → (is_ready ≡ true → IsRowValue (slots_at (schema_in rows.schema) rows.plan.expansion (Some 0)) (properties_at (schema_in rows.schema) rows.plan.type_id) row)
      → IsRowsOfType (record rows { cache = cache; known = known; row = row; is_ready = is_ready })
  reader_stays is_ready are of_row = record { is_plan = is.is_plan; types = is.types; known = are_known; ready = λ e. (are, of_row e) }
