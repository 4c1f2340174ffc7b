-- Slots by the names of their properties.
use Rattle.std.proofs.Common.{◌≡◌, ◌≢◌, ℕ, suc, ◌+◌, List, [], ◌∷◌, map, Some, None, slice_get, Bool, true, false, nat_eq, refl, sym, ap, ◌∙◌, arith}
use Rattle.std.specs.Cmp.Lexicographic.{pointwise, same_text}
use Rattle.std.specs.List.{AllByRecursion, position_from}
use Rattle.std.proofs.lemmas.Cmp.{nat_list_eq_equiv}
use Rattle.std.proofs.lemmas.Iterator.Adapters.{position_from-zero}
use Rattle.csdl_schema.specs.SchemaModel.{PropertyModel, slot_named}

differ : false ≡ true → ⊥
differ is = cc

module _ (name : List ℕ) where
  abbrev has_name : PropertyModel → Bool
  has_name p = pointwise nat_eq name p.name

  abbrev IsNamedFrom : ℕ → ℕ → List PropertyModel → Type 0
  IsNamedFrom k n ps = (i : ℕ) × (n ≡ k + i) × (slice_get (map (λ p. p.name) ps) i ≡ Some name)

  some_from : (k n : ℕ) (ps : List PropertyModel) → position_from has_name k ps ≡ Some n → IsNamedFrom k n ps
  some_from k n [] is = absurd (cc)
  some_from k n (p ∷ ps) is = by (has_name p) refl (λ rest. some_from (k + 1) n ps rest)
    where
      by : (b : Bool) → b ≡ has_name p → (position_from has_name (k + 1) ps ≡ Some n → IsNamedFrom (k + 1) n ps) → IsNamedFrom k n (p ∷ ps)
      by true e further =
          let here : Some k ≡ Some n = rw (← e) at is in
          let same : k ≡ n = cc in
          (0, omega arith, ap Some (sym (same_text name p.name e)))
      by false e further =
          let rest : position_from has_name (k + 1) ps ≡ Some n = rw (← e) at is in
          let more = further rest in
          (suc more.0, omega (arith, more.1), more.2)

  none_from : (k : ℕ) (ps : List PropertyModel) → position_from has_name k ps ≡ None → AllByRecursion (λ p. p.name ≢ name) ps
  none_from k [] is = tt
  none_from k (p ∷ ps) is = by (has_name p) refl (λ rest. none_from (k + 1) ps rest)
    where
      by : (b : Bool) → b ≡ has_name p → (position_from has_name (k + 1) ps ≡ None → AllByRecursion (λ q. q.name ≢ name) ps) → AllByRecursion (λ q. q.name ≢ name) (p ∷ ps)
      by true e further = let here : Some k ≡ None = rw (← e) at is in absurd (cc)
      by false e further =
          let rest : position_from has_name (k + 1) ps ≡ None = rw (← e) at is in
          (λ same. differ (e ∙ ap (pointwise nat_eq name) same ∙ nat_list_eq_equiv.refl name), further rest)

pub slot_is_named : (name : List ℕ) (ps : List PropertyModel) (n : ℕ) → Some n ≡ slot_named ps name → slice_get (map (λ p. p.name) ps) n ≡ Some name
slot_is_named name ps n is =
    let found = some_from name 0 n ps (sym (position_from-zero (has_name name) ps) ∙ sym is) in
    let same : n ≡ found.0 = omega (arith, found.1) in
    ap (slice_get (map (λ p. p.name) ps)) same ∙ found.2

pub no_slot_is_named : (name : List ℕ) (ps : List PropertyModel) → None ≡ slot_named ps name → AllByRecursion (λ p. p.name ≢ name) ps
no_slot_is_named name ps is = none_from name 0 ps (sym (position_from-zero (has_name name) ps) ∙ sym is)
