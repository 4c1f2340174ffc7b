-- Properties by name, in the order of their names.
use Rattle.std.proofs.Common.{◌≡◌, ℕ, ◌+◌, ◌<◌, List, [], ◌∷◌, ◌++◌, length, get_or, map, drop, String, Global, Less, false, nat_eq, is_eq, refl, sym, ap, subst, ◌∙◌, string_bytes, add-one}
use Rattle.std.proofs.Math.Seq.{drop-cons}
use Rattle.std.specs.Ordering.{nat_cmp, ordering_reverse}
use Rattle.std.specs.String.{string_eq}
use Rattle.std.specs.List.{AllByRecursion}
use Rattle.std.specs.List.Sorted.{IsStrictlySortedBy}
use Rattle.std.specs.Cmp.Lexicographic.{pointwise, slice_cmp}
use Rattle.std.proofs.lemmas.Cmp.{nat_list_cmp_total}
use Rattle.std.proofs.lemmas.Map.Text.{is_eq-slice_cmp}
use Rattle.indexmap.specs.IndexMap.{insert_entry}
use Rattle.csdl_declarations.specs.declared.declared_type.PropertyDeclaration as code
use Rattle.csdl_declarations.specs.DeclaredType.{PropertyDeclaration}
use Rattle.csdl_declarations.specs.DeclaredTypeView.{property_view}
use Rattle.csdl_schema.specs.declared.property.Property.{Property}
use Rattle.csdl_schema.specs.declared.property.PropertyKind.{PropertyKind}
use Rattle.csdl_schema.specs.private.Placed.{Finder, entry_view, placed_property}

abbrev pub AreRising : List (List ℕ) → Type 0
AreRising names = IsStrictlySortedBy (slice_cmp nat_cmp) names

abbrev Entry : Type 0
Entry = List ℕ × Property

abbrev pub AllAbove : List ℕ → List (List ℕ) → Type 0
AllAbove first names = AllByRecursion (λ y. slice_cmp nat_cmp first y ≡ Less) names

unequal_later : (xs ys : List ℕ) → slice_cmp nat_cmp xs ys ≡ Less → pointwise nat_eq ys xs ≡ false
unequal_later xs ys below = sym (is_eq-slice_cmp ys xs) ∙ ap is_eq (nat_list_cmp_total.antisymm ys xs ∙ ap ordering_reverse below)

above_at : (first : List ℕ) (es : List Entry) (e : Entry) (rest : List Entry) → AllAbove first (map (λ q. q.0) (es ++ e ∷ rest)) → slice_cmp nat_cmp first e.0 ≡ Less
above_at first [] e rest h = h.0
above_at first (q ∷ es) e rest h = above_at first es e rest h.1

-- a name above all names so far goes last
pub insert_last : (es : List (String Global × Property)) (k : String Global) (v : Property) (e : Entry) (rest : List Entry) → string_bytes k ≡ e.0
    → AreRising (map (λ q. q.0) (map entry_view es ++ e ∷ rest)) → insert_entry string_eq es k v ≡ es ++ (k, v) ∷ []
unfolding IsStrictlySortedBy
insert_last [] k v e rest named ordered = refl
insert_last (d ∷ es) k v e rest named ordered =
    let apart : string_eq k d.0 ≡ false = unequal_later (string_bytes d.0) (string_bytes k) (subst (λ n. slice_cmp nat_cmp (string_bytes d.0) n ≡ Less) (sym named) (above_at (string_bytes d.0) (map entry_view es) e rest ordered.0)) in
    rw apart (ap (λ rest. d ∷ rest) (insert_last es k v e rest named ordered.1))

pub placed_names : (kinds : List PropertyKind) (find : Finder) (ps : List PropertyDeclaration) → map (λ e. e.0) (map (placed_property kinds find) ps) ≡ map (λ p. p.name) ps
placed_names kinds find [] = refl
placed_names kinds find (p ∷ ps) = ap (λ rest. p.name ∷ rest) (placed_names kinds find ps)

pub placed_in_order : (es : List Entry) (kinds : List PropertyKind) (find : Finder) (ps : List PropertyDeclaration) → es ≡ map (placed_property kinds find) ps
    → AreRising (map (λ p. p.name) ps) → AreRising (map (λ e. e.0) es)
placed_in_order es kinds find ps same rising = subst AreRising (sym (ap (map (λ e. e.0)) same ∙ placed_names kinds find ps)) rising

pub same_entry : (e : String Global × Property) (p : Entry) (name : List ℕ) → string_bytes e.0 ≡ name → (name, e.1) ≡ p → entry_view e ≡ p
same_entry e p name a b = ap (λ n. (n, e.1)) a ∙ b

pub property_step : (es new : List (String Global × Property)) (e : String Global × Property) (p : Entry) (rest all : List Entry)
    → new ≡ es ++ e ∷ [] → entry_view e ≡ p → map entry_view es ++ p ∷ rest ≡ all → map entry_view new ++ rest ≡ all
property_step es new e p rest all added same whole =
    ap (λ es. map entry_view es ++ rest) added ∙ pushed es ∙ ap (λ q. map entry_view es ++ q ∷ rest) same ∙ whole
  where
    pushed : (es : List (String Global × Property)) → map entry_view (es ++ e ∷ []) ++ rest ≡ map entry_view es ++ entry_view e ∷ rest
    pushed [] = refl
    pushed (f ∷ es) = ap (λ ps. entry_view f ∷ ps) (pushed es)

-- the property at an index is put after those before it
pub property_put : (kinds : List PropertyKind) (find : Finder) (all : List code.PropertyDeclaration) (i : ℕ) (d : code.PropertyDeclaration) (es new : List (String Global × Property)) (k : String Global) (v : Property)
    → i < length all → string_bytes k ≡ (get_or all i d).name.now → ((get_or all i d).name.now, v) ≡ placed_property kinds find (property_view (get_or all i d))
    → AreRising (map (λ p. p.name) (map property_view all)) → new ≡ insert_entry string_eq es k v
    → map entry_view es ++ map (placed_property kinds find) (map property_view (drop i all)) ≡ map (placed_property kinds find) (map property_view all)
    → map entry_view new ++ map (placed_property kinds find) (map property_view (drop (i + 1) all)) ≡ map (placed_property kinds find) (map property_view all)
property_put kinds find all i d es new k v within named is rising added so_far =
    let place = placed_property kinds find in
    let p = get_or all i d in
    let e = place (property_view p) in
    let rest = map place (map property_view (drop (i + 1) all)) in
    let step : drop i all ≡ p ∷ drop (i + 1) all = rw add-one (drop-cons all i d within) in
    let whole : map entry_view es ++ e ∷ rest ≡ map place (map property_view all) = ap (λ ps. map entry_view es ++ map place (map property_view ps)) (sym step) ∙ so_far in
    let behind : new ≡ es ++ (k, v) ∷ [] = added ∙ insert_last es k v e rest named (placed_in_order _ kinds find (map property_view all) whole rising) in
    property_step es new (k, v) e rest (map place (map property_view all)) behind (same_entry (k, v) e p.name.now named is) whole
