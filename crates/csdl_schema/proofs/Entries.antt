-- Entries of a map, by their names and what goes by them.
use Rattle.std.proofs.Common.{◌≡◌, ℕ, zero, suc, ◌<◌, List, [], ◌∷◌, Some, length, get_or, slice_get, refl, sym, ap, ◌∙◌, arith}
use Rattle.std.specs.Map.{keys_of, values_of}
use Rattle.std.proofs.lemmas.Map.Entries.{length-keys_of, length-values_of}
use Rattle.std.proofs.lemmas.Option.{slice_get_read}

-- the entry of a name
pub entry_named : {K X : Type 0} (es : List (K × X)) (n : ℕ) (k : K) → slice_get (keys_of es) n ≡ Some k → (x : X) × (slice_get es n ≡ Some (k, x))
entry_named [] n k at = absurd (cc)
entry_named (e ∷ es) zero k at = let same : e.0 ≡ k = cc in (e.1, λ j. Some (same j, e.1))
entry_named (e ∷ es) (suc n) k at = entry_named es n k at

-- the entry of a name and of what goes by it
entry_of_both : {K X : Type 0} (es : List (K × X)) (n : ℕ) (k : K) (x : X) → slice_get (keys_of es) n ≡ Some k → slice_get (values_of es) n ≡ Some x → slice_get es n ≡ Some (k, x)
entry_of_both [] n k x key value = absurd (cc)
entry_of_both (e ∷ es) zero k x key value =
    let first : e.0 ≡ k = cc in
    let second : e.1 ≡ x = cc in
    λ j. Some (first j, second j)
entry_of_both (e ∷ es) (suc n) k x key value = entry_of_both es n k x key value

module _ {K X : Type 0} (es : List (K × X)) (ks : List K) (keys : ks ≡ keys_of es) where
  pub as_many_keys : length ks ≡ length es
  as_many_keys = ap length keys ∙ length-keys_of es

  pub key_read : (n : ℕ) (k : K) → n < length es → k ≡ get_or ks n k → slice_get (keys_of es) n ≡ Some k
  key_read n k within key =
      let many : length ks ≡ length es = as_many_keys in
      ap (λ l. slice_get l n) (sym keys) ∙ slice_get_read ks (length ks) n k refl (omega (arith, many, within)) key

  module _ (xs : List X) (values : xs ≡ values_of es) where
    pub as_many_values : length xs ≡ length es
    as_many_values = ap length values ∙ length-values_of es

    pub entry_read : (n : ℕ) (k : K) (x : X) → n < length es → k ≡ get_or ks n k → x ≡ get_or xs n x → slice_get es n ≡ Some (k, x)
    entry_read n k x within key value =
        let many : length xs ≡ length es = as_many_values in
        entry_of_both es n k x (key_read n k within key)
        (ap (λ l. slice_get l n) (sym values) ∙ slice_get_read xs (length xs) n x refl (omega (arith, many, within)) value)
