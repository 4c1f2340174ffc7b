-- What `put_path_value` returns.
use Rattle.sql_forms.proofs.Common.{◌≡◌, ◌++◌, ◌∷◌, ◌∙◌, [], ℕ, zero, suc, List, Some, None, Result, OnOk, sym, ap, ◌==◌, Bool, length, true, refl, arith, Decides-eqb, slice_get, IsMoment, EndsOnceOnEntities, Range, FieldType, SqlNode, Base, Path, Draft, Grows, GrowsBy, PutsPath, AreRanges, HasFieldType, IsPathAt, IsWorldOf, OfPlace, Puts, Question, World, by_node, grows_then, on_ok, world_before, named_by}
use Rattle.sql_outcomes.specs.private.ValueForms.{Itself}
use Rattle.sql_forms.proofs.puts.PathValuePut.{column_put, field_put}

stays_there : {A : Type 0} (xs more : List A) (k : ℕ) (x : A) → slice_get xs k ≡ Some x → slice_get (xs ++ more) k ≡ Some x
stays_there [] more k x is = let none : None ≡ Some x = is in absurd (cc)
stays_there (first ∷ rest) more zero x is = is
stays_there (first ∷ rest) more (suc k) x is = stays_there rest more k x is

module _ (question : Question) (ends : EndsOnceOnEntities) (is_moment : IsMoment question.now.civil question.now.offset_minutes) (ranges : List Range) (are : AreRanges question ranges) (place number : ℕ)
    (is_path : IsPathAt question.filter place) (type : FieldType) (has_value : HasFieldType question.filter place type) (old middle new : Draft) (path : PutsPath question old middle place number) {T E : Type 0} (r : Result T E) where
  after_path : (node : SqlNode) → named_by node ≡ [] → GrowsBy middle new (node ∷ []) [] [] → Grows old new (node ∷ [])
  after_path node plain grows = grows_then old middle new [] (node ∷ []) path.grows (by_node middle new node plain grows)

  pub ok_field_value : OnOk r (GrowsBy middle new (SqlNode.Field number type ∷ []) [] []) → OnOk r (Puts question old new (OfPlace question.filter place) Itself)
  ok_field_value put =
      on_ok r (GrowsBy middle new (SqlNode.Field number type ∷ []) [] []) (Puts question old new (OfPlace question.filter place) Itself)
      (λ g. field_put question ends is_moment ranges are place number is_path type has_value old middle new path (by_node middle new (SqlNode.Field number type) refl g) (after_path (SqlNode.Field number type) refl g)) put

  pub ok_column_value : (slot : ℕ) (found : Path) → slice_get middle.tree.paths.items number ≡ Some found → found.base ≡ Base.Column slot → found.steps.items ≡ []
      → OnOk r (GrowsBy middle new (SqlNode.Column slot ∷ []) [] []) → OnOk r (Puts question old new (OfPlace question.filter place) Itself)
  ok_column_value slot found at base_is none put =
      on_ok r (GrowsBy middle new (SqlNode.Column slot ∷ []) [] []) (Puts question old new (OfPlace question.filter place) Itself)
      (λ g. column_put question ends is_moment ranges are place number is_path type has_value old middle new path slot found at base_is none (by_node middle new (SqlNode.Column slot) refl g) (after_path (SqlNode.Column slot) refl g) (there g)) put
    where
      there : GrowsBy middle new (SqlNode.Column slot ∷ []) [] [] → (world : World) → IsWorldOf question new world → slice_get world.asked.paths number ≡ Some found
      there g world is =
          let before = world_before question middle new (SqlNode.Column slot ∷ []) world (by_node middle new (SqlNode.Column slot) refl g) is in
          ap (λ (paths : List Path). slice_get paths number) before.paths.1 ∙ stays_there middle.tree.paths.items before.paths.0 number found at

-- what is empty has none
pub no_items : {A : Type 0} (xs ys : List A) (empty : Bool) → ys ≡ xs → empty ≡ (length ys == 0) → empty ≡ true → xs ≡ []
no_items xs [] empty same reported is = sym same
no_items xs (y ∷ ys) empty same reported is = let none : length (y ∷ ys) ≡ 0 = (Decides-eqb (length (y ∷ ys)) 0).0 (sym reported ∙ is) in absurd (omega (arith, none))
