-- The columns of a type's properties, by slot: which lines are about one of them, and a column for each.
use Rattle.std.proofs.Common.{◌≡◌, ◌↔◌, inl, inr, ℕ, zero, suc, ◌+◌, ◌<◌, ◌≤◌, Bool, true, List, [], ◌∷◌, ◌++◌, map, length, take, Option, None, Some, refl, sym, ap, subst, ◌∙◌, arith}
use Rattle.std.proofs.Common.{below_more, false, is_some, Bor, MatchOption}
use Rattle.std.proofs.lemmas.Bool.Decides.{eqb_tells}
use Rattle.std.proofs.lemmas.List.{take_all}
use Rattle.std.specs.Prelude.{IfSome, IsSomeAnd, IsTrue, slice_get, ◌==◌}
use Rattle.csdl_schema.specs.SchemaModel.{PropertyModel}
use Rattle.sql_tables.specs.Columns.{AreColumns, IsAbout, IsColumnOf, IsKnown}

abbrev pub names_of : List PropertyModel → List (List ℕ)
names_of properties = map (λ (p : PropertyModel). p.name) properties

-- the property whose name stands at a slot
at_slot : (ps : List PropertyModel) (slot : ℕ) (name : List ℕ) → slice_get (names_of ps) slot ≡ Some name → IsSomeAnd (slice_get ps slot) (λ p. p.name ≡ name)
at_slot [] slot name at = let none : None ≡ Some name = at in absurd (cc)
at_slot (p ∷ ps) zero name at = let some : Some p.name ≡ Some name = at in let same : p.name ≡ name = cc in same
at_slot (p ∷ ps) (suc slot) name at = at_slot ps slot name at

-- ---- whether a line is about a property

-- a line is about none of the properties before a slot
abbrev pub LacksBefore : List PropertyModel → List ℕ → ℕ → Type 0
LacksBefore properties line slot =
    (k : ℕ) → k < slot → IfSome (slice_get properties k) (λ p. (column : List ℕ) → ¬ IsAbout p.name line column)

pub lacks_none : (properties : List PropertyModel) (line : List ℕ) → LacksBefore properties line 0
lacks_none properties line k below = absurd (omega arith)

lacks : (found : Option PropertyModel) (line name : List ℕ) → IsSomeAnd found (λ p. p.name ≡ name) → ((column : List ℕ) → ¬ IsAbout name line column)
    → IfSome found (λ p. (column : List ℕ) → ¬ IsAbout p.name line column)
lacks None line name is none = absurd is
lacks (Some p) line name is none = subst (λ (n : List ℕ). (column : List ℕ) → ¬ IsAbout n line column) (sym is) none

pub lacks_on : (properties : List PropertyModel) (line name : List ℕ) (slot : ℕ) → slice_get (names_of properties) slot ≡ Some name → ((column : List ℕ) → ¬ IsAbout name line column)
    → LacksBefore properties line slot → LacksBefore properties line (slot + 1)
lacks_on properties line name slot at none before =
    below_more (λ (k : ℕ). IfSome (slice_get properties k) (λ p. (column : List ℕ) → ¬ IsAbout p.name line column)) slot before
    (lacks (slice_get properties slot) line name (at_slot properties slot name at) none)

abbrev IsNamedIn : List ℕ → Option PropertyModel → Type 0
IsNamedIn line found = IsSomeAnd found (λ p. (column : List ℕ) × IsAbout p.name line column)

named_in : (found : Option PropertyModel) (line name column : List ℕ) → IsSomeAnd found (λ p. p.name ≡ name) → IsAbout name line column → IsNamedIn line found
named_in None line name column is about = is
named_in (Some p) line name column is about = (column, subst (λ (n : List ℕ). IsAbout n line column) (sym is) about)

pub known_here : (properties : List PropertyModel) (line name column : List ℕ) (slot : ℕ) → slice_get (names_of properties) slot ≡ Some name → IsAbout name line column → IsKnown properties line
known_here properties [] name column slot at about = tt
known_here properties (c ∷ cs) name column slot at about =
    (slot, named_in (slice_get properties slot) (c ∷ cs) name column (at_slot properties slot name at) about)

within : (ps : List PropertyModel) (slot : ℕ) (line : List ℕ) → IsNamedIn line (slice_get ps slot) → slot < length ps
within [] slot line is = absurd is
within (p ∷ ps) zero line is = omega arith
within (p ∷ ps) (suc slot) line is = let more = within ps slot line is in omega arith

lacked : (found : Option PropertyModel) (line : List ℕ) → IsNamedIn line found → ¬ IfSome found (λ p. (column : List ℕ) → ¬ IsAbout p.name line column)
lacked None line is none = absurd is
lacked (Some p) line is none = none is.0 is.1

-- a line that is about none of them is known where it is empty, and only there
pub known_empty : (properties : List PropertyModel) (line : List ℕ) (slots : ℕ) (empty : Bool) → length properties ≤ slots → LacksBefore properties line slots → empty ≡ (length line == 0)
    → IsTrue empty ↔ IsKnown properties line
known_empty properties [] slots empty all none is = (λ _. tt, λ _. is)
known_empty properties (c ∷ cs) slots empty all none is =
    elim (eqb_tells (length (c ∷ cs)) 0) [
      | inl same ↦ absurd (omega (arith, same.1))
      | inr other ↦ (
        λ (holds : IsTrue empty). let not_zero = other.0 in absurd (cc),
        λ (known : IsKnown properties (c ∷ cs)).
            absurd (lacked (slice_get properties known.0) (c ∷ cs) known.1 (none known.0 (let inside = within properties known.0 (c ∷ cs) known.1 in omega arith))),
      )
    ]

-- ---- whether a column was found in a line

abbrev FindsIn : List ℕ → List ℕ → Option (Bor (List ℕ)) → Type 0
FindsIn name line found =
    MatchOption found ((other : List ℕ) → ¬ IsAbout name line other) (λ column. IsAbout name line column.now)

pub not_named : (name line : List ℕ) (found : Option (Bor (List ℕ))) (some : Bool) → FindsIn name line found → some ≡ is_some found → some ≡ false → (other : List ℕ) → ¬ IsAbout name line other
not_named name line None some finds is none = finds
not_named name line (Some column) some finds is none = let found : some ≡ true = is in absurd (cc)

pub named_there : (name line : List ℕ) (found : Option (Bor (List ℕ))) (some : Bool) → FindsIn name line found → some ≡ is_some found → some ≡ true → (column : List ℕ) × IsAbout name line column
named_there name line None some finds is there = let none : some ≡ false = is in absurd (cc)
named_there name line (Some column) some finds is there = (column.now, finds)

-- ---- a column for each property

pub now_pushed : (names : List (Bor (List ℕ))) (name : Bor (List ℕ)) → map (λ (n : Bor (List ℕ)). n.now) (names ++ name ∷ []) ≡ map (λ (n : Bor (List ℕ)). n.now) names ++ name.now ∷ []
now_pushed [] name = refl
now_pushed (n ∷ names) name = ap (λ (ns : List (List ℕ)). n.now ∷ ns) (now_pushed names name)

-- a column more
columns_more : (ps : List PropertyModel) (p : PropertyModel) (lines columns : List (List ℕ)) (column : List ℕ) → AreColumns ps lines columns → IsColumnOf p.name lines column
    → AreColumns (ps ++ p ∷ []) lines (columns ++ column ∷ [])
columns_more [] p lines columns column are is =
    subst (λ (cs : List (List ℕ)). AreColumns (p ∷ []) lines (cs ++ column ∷ [])) (sym are) (is, refl)
columns_more (q ∷ ps) p lines [] column are is = absurd are
columns_more (q ∷ ps) p lines (c ∷ columns) column are is = (are.0, columns_more ps p lines columns column are.1 is)

taken_more : (ps : List PropertyModel) (slot : ℕ) (name : List ℕ) → slice_get (names_of ps) slot ≡ Some name
    → (p : PropertyModel) × (p.name ≡ name) × (take (suc slot) ps ≡ take slot ps ++ p ∷ [])
taken_more [] slot name at = let none : None ≡ Some name = at in absurd (cc)
taken_more (p ∷ ps) zero name at = let some : Some p.name ≡ Some name = at in let same : p.name ≡ name = cc in (p, same, refl)
taken_more (q ∷ ps) (suc slot) name at =
    let more = taken_more ps slot name at in
    (more.0, more.1, ap (λ (xs : List PropertyModel). q ∷ xs) more.2)

pub columns_on : (properties : List PropertyModel) (lines columns more : List (List ℕ)) (name column : List ℕ) (slot : ℕ) → slice_get (names_of properties) slot ≡ Some name
    → AreColumns (take slot properties) lines columns → IsColumnOf name lines column → more ≡ columns ++ column ∷ [] → AreColumns (take (slot + 1) properties) lines more
columns_on properties lines columns more name column slot at are is next =
    let step = taken_more properties slot name at in
    let on : slot + 1 ≡ suc slot = omega arith in
    let front : take (slot + 1) properties ≡ take slot properties ++ step.0 ∷ [] = ap (λ (k : ℕ). take k properties) on ∙ step.2 in
    let here : IsColumnOf step.0.name lines column = subst (λ (n : List ℕ). IsColumnOf n lines column) (sym step.1) is in
    subst (λ (ps : List PropertyModel). AreColumns ps lines more) (sym front)
    (subst (λ (cs : List (List ℕ)). AreColumns (take slot properties ++ step.0 ∷ []) lines cs) (sym next) (columns_more (take slot properties) step.0 lines columns column are here))

pub columns_all : (properties : List PropertyModel) (lines columns : List (List ℕ)) (slots : ℕ) → length properties ≤ slots → AreColumns (take slots properties) lines columns
    → AreColumns properties lines columns
columns_all properties lines columns slots all are =
    subst (λ (ps : List PropertyModel). AreColumns ps lines columns) (take_all slots properties all) are
