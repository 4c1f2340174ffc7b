use Rattle.std.proofs.Common.{◌≡◌, ◌<◌, ◌-◌, ◌∙◌, ℕ, zero, suc, List, [], ◌∷◌, Some, None, Bool, true, false, refl, sym, ap, arith}
use Rattle.std.specs.Prelude.{map, length, nat_eq, option_and_then, slice_get}
use Rattle.std.specs.Option.{option_map}
use Rattle.std.proofs.lemmas.Bool.{eqb-true}
use Rattle.std.proofs.lemmas.Option.{slice_get-get_or, slice_get-map, slice_get_past}
use Rattle.fault_numbers.specs.FaultNumbers.{name_at, names_of, unless_empty}
use Rattle.fault_numbers.proofs.fault_number.fault_name.Goals as goal

-- the name of a number that is not 0 stands at the index one less, unless it is empty
name_before : (names : List (List ℕ)) (n : ℕ) → 0 < n → name_at names n ≡ option_and_then unless_empty (slice_get names (n - 1))
name_before names zero some = absurd (omega arith)
name_before names (suc k) some = let same : k ≡ suc k - 1 = omega arith in ap (λ (place : ℕ). option_and_then unless_empty (slice_get names place)) same

not_zero : (n : ℕ) → suc n ≡ 0 → ⊥
not_zero n same = omega arith

empty_none : (s : List ℕ) (empty : Bool) → empty ≡ nat_eq (length s) 0 → empty ≡ true → None ≡ unless_empty s
empty_none [] empty is holds = refl
empty_none (letter ∷ letters) empty is holds = absurd (not_zero (length letters) (eqb-true (suc (length letters)) 0 (sym is ∙ holds)))

some_kept : (s : List ℕ) (empty : Bool) → empty ≡ nat_eq (length s) 0 → empty ≡ false → Some s ≡ unless_empty s
some_kept [] empty is fails = absurd cc
some_kept (letter ∷ letters) empty is fails = refl

module _ {T : Type 0} (shown : T → List ℕ) (all : List T) (names : List (List ℕ)) (n : ℕ) (some : 0 < n) (reported : map shown all ≡ names) where
  -- what is found there is the name
  found : (name : T) → slice_get all (n - 1) ≡ Some name → unless_empty (shown name) ≡ name_at names n
  found name there =
      ap (option_and_then unless_empty)
      (ap (option_map shown) (sym there) ∙ sym (slice_get-map shown all (n - 1)) ∙ ap (λ (xs : List (List ℕ)). slice_get xs (n - 1)) reported)
      ∙ sym (name_before names n some)

  -- and where nothing is found there is none
  lacking : slice_get all (n - 1) ≡ None → None ≡ name_at names n
  lacking none =
      ap (option_and_then unless_empty)
      (ap (option_map shown) (sym none) ∙ sym (slice_get-map shown all (n - 1)) ∙ ap (λ (xs : List (List ℕ)). slice_get xs (n - 1)) reported)
      ∙ sym (name_before names n some)

pub returns-then-is_empty : goal.returns-then-is_empty
returns-then-is_empty c =
    let all = c.names.result.now in
    let same : c.from.result ≡ c.args.number = cc in
    let there = slice_get-get_or all (c.from.result - 1) c.in-Some.name.now c.in-Some.ensures.lookup.3.0 ∙ ap Some (sym c.in-Some.ensures.lookup.1) in
    empty_none c.in-Some.name.now.now c.is_empty.result c.is_empty.ensures c.if-is_empty.true
    ∙ found (λ shown. shown.now) all (names_of c.args.kind) c.from.result (omega arith) c.names.ensures c.in-Some.name.now there ∙ ap (name_at (names_of c.args.kind)) same

pub returns-else-is_empty : goal.returns-else-is_empty
returns-else-is_empty c =
    let all = c.names.result.now in
    let same : c.from.result ≡ c.args.number = cc in
    let there = slice_get-get_or all (c.from.result - 1) c.in-Some.name.now c.in-Some.ensures.lookup.3.0 ∙ ap Some (sym c.in-Some.ensures.lookup.1) in
    some_kept c.in-Some.name.now.now c.is_empty.result c.is_empty.ensures c.if-is_empty.false
    ∙ found (λ shown. shown.now) all (names_of c.args.kind) c.from.result (omega arith) c.names.ensures c.in-Some.name.now there ∙ ap (name_at (names_of c.args.kind)) same

pub returns-in-None : goal.returns-in-None
returns-in-None c =
    let all = c.names.result.now in
    let same : c.from.result ≡ c.args.number = cc in
    lacking (λ shown. shown.now) all (names_of c.args.kind) c.from.result (omega arith) c.names.ensures (slice_get_past all (c.from.result - 1) c.in-None.ensures.lookup.3)
    ∙ ap (name_at (names_of c.args.kind)) same
