-- Texts without U+0000.
use Rattle.std.proofs.Common.{◌≡◌, ◌≢◌, ◌↔◌, ◌<◌, ℕ, zero, suc, List, [], ◌∷◌, Bool, true, false, IsTrue, String, Some, None, map, length, get_or, refl, sym, subst, ◌∙◌}
use Rattle.std.specs.Prelude.{slice_get, string_bytes}
use Rattle.std.specs.List.{AllByRecursion}
use Rattle.std.specs.declared.alloc.Global.{Global}
use Rattle.edm_values.specs.declared.value.Value.{Value}
use Rattle.sql_meaning.specs.ParameterGives.{HoldsNul}
use Rattle.odata_sql.specs.Refusals.{HasNoNul}

true_and_false : (b : Bool) → b ≡ true → b ≡ false → ⊥
true_and_false b here there = let e : true ≡ false = sym here ∙ there in cc

pub none_found : (bytes : List ℕ) (found : Bool) → ((k : ℕ) → k < length bytes → get_or bytes k 0 ≡ 0 → found ≡ true) → found ≡ false → IsTrue true ↔ ¬ HoldsNul bytes
none_found bytes found sees none = (λ is. λ holds. true_and_false found (sees holds.0 holds.1 holds.2) none, λ free. refl)

pub one_found : (bytes : List ℕ) → HoldsNul bytes → IsTrue false ↔ ¬ HoldsNul bytes
one_found bytes holds = (λ (is : IsTrue false). absurd (cc), λ free. absurd (free holds))

-- what is no text has none
pub other_free : (value : Value) → ((text : String Global) → value ≢ Value.Text text) → HasNoNul value
other_free (Value.Text text) no_text = absurd (no_text text refl)
other_free value no_text = tt

-- all that is made of the elements is so
module _ {A B : Type 0} (P : B → Type 0) (f : A → B) where
  pub of_mapped : (xs : List A) → AllByRecursion (λ (x : A). P (f x)) xs ↔ AllByRecursion P (map f xs)
  of_mapped [] = (λ all. all, λ all. all)
  of_mapped (x ∷ xs) = (λ all. (all.0, (of_mapped xs).0 all.1), λ all. (all.0, (of_mapped xs).1 all.1))

none_there : {A : Type 0} (x : A) → None ≡ Some x → ⊥
none_there x at = cc

same_value : (first value : Value) → Some first ≡ Some value → first ≡ value
same_value first value at = cc

-- each text among the values is
pub free_at : (values : List Value) → AllByRecursion HasNoNul values → (place : ℕ) (text : String Global) → slice_get values place ≡ Some (Value.Text text) → ¬ HoldsNul (string_bytes text)
free_at [] all place text at = absurd (none_there (Value.Text text) at)
free_at (value ∷ values) all zero text at = subst HasNoNul (same_value value (Value.Text text) at) all.0
free_at (value ∷ values) all (suc place) text at = free_at values all.1 place text at
