-- Texts that are put after others, each once, and the texts of paths.
use Rattle.std.proofs.Common.{◌≡◌, Bor, append_assoc, rules, refl, sym, ap, ◌∙◌, ℕ, List, [], ◌∷◌, ◌++◌, ◌||◌, Bool, true, false, cond, Some, length, map, nat_eq, suc, unwrap_or, eqb-true, eq-eqb, arith}
use Rattle.std.specs.Cmp.Lexicographic.{pointwise}
use Rattle.std.specs.List.{list_any}
use Rattle.std.proofs.lemmas.Bool.{false≢true}
use Rattle.std.proofs.lemmas.List.{append-nil}
use Rattle.odata_signatures.specs.NeededPaths.{VariablePaths, variable_path}
use Rattle.odata_signatures.specs.Typed.{Scope}
use Rattle.odata_checked_filter.specs.PropertyPaths.{path_text, unseen}
use Rattle.odata_checked_filter.specs.private.PropertyPaths.{AreBound, NamedText, bound_in, text_named, with_texts}
use Rattle.odata_checked_filter.specs.declared.property_paths.Variables.{Variables, Bound, Empty, the_lemmas}

pub any_map : {X Y : Type 0} (test : Y → Bool) (f : X → Y) (xs : List X) → list_any (λ x. test (f x)) xs ≡ list_any test (map f xs)
any_map test f [] = refl
any_map test f (x ∷ xs) = ap (λ (b : Bool). test (f x) || b) (any_map test f xs)

-- ---- texts that are not there yet

unseen_both : (seen texts more : List (List ℕ)) → unseen seen (texts ++ more) ≡ unseen seen texts ++ unseen (seen ++ unseen seen texts) more
unseen_both seen [] more = ap (λ (held : List (List ℕ)). unseen held more) (sym (append-nil seen))
unseen_both seen (text ∷ texts) more = by (list_any (pointwise nat_eq text) seen) (unseen_both seen texts more) (unseen_both (seen ++ text ∷ []) texts more)
  where
    by : (b : Bool) → unseen seen (texts ++ more) ≡ unseen seen texts ++ unseen (seen ++ unseen seen texts) more
        → unseen (seen ++ text ∷ []) (texts ++ more) ≡ unseen (seen ++ text ∷ []) texts ++ unseen ((seen ++ text ∷ []) ++ unseen (seen ++ text ∷ []) texts) more
        → cond b (unseen seen (texts ++ more)) (text ∷ unseen (seen ++ text ∷ []) (texts ++ more))
        ≡ cond b (unseen seen texts) (text ∷ unseen (seen ++ text ∷ []) texts)
        ++ unseen (seen ++ cond b (unseen seen texts) (text ∷ unseen (seen ++ text ∷ []) texts)) more
    by true there put = there
    by false there put =
        ap (λ (rest : List (List ℕ)). text ∷ rest)
        (put
        ∙ ap (λ (held : List (List ℕ)). unseen (seen ++ text ∷ []) texts ++ unseen held more)
        (append_assoc seen (text ∷ []) (unseen (seen ++ text ∷ []) texts)))

-- texts put one part after the other
pub put_both : (found texts more : List (List ℕ)) → with_texts (with_texts found texts) more ≡ with_texts found (texts ++ more)
put_both found texts more =
    append_assoc found (unseen ([] ∷ found) texts) (unseen ([] ∷ (found ++ unseen ([] ∷ found) texts)) more)
    ∙ ap (λ (rest : List (List ℕ)). found ++ rest) (sym (unseen_both ([] ∷ found) texts more))

-- one text more
pub put_seen : (found : List (List ℕ)) (text : List ℕ) → list_any (pointwise nat_eq text) ([] ∷ found) ≡ true → found ≡ with_texts found (text ∷ [])
put_seen found text is = sym (ap (λ (b : Bool). found ++ cond b [] (text ∷ [])) is ∙ append-nil found)

pub put_unseen : (found : List (List ℕ)) (text : List ℕ) → list_any (pointwise nat_eq text) ([] ∷ found) ≡ false → found ++ text ∷ [] ≡ with_texts found (text ∷ [])
put_unseen found text is = sym (ap (λ (b : Bool). found ++ cond b [] (text ∷ [])) is)

-- whether it is there, by the texts of the code
pub seen_empty : (found : List (List ℕ)) (text asked : List ℕ) (empty : Bool) → asked ≡ text → empty ≡ nat_eq (length asked) 0 → empty ≡ true
    → list_any (pointwise nat_eq text) ([] ∷ found) ≡ true
seen_empty found [] asked empty same reported is = refl
seen_empty found (code ∷ codes) asked empty same reported is =
    let none : length asked ≡ 0 = eqb-true (length asked) 0 (sym reported ∙ is) in
    let some : length asked ≡ suc (length codes) = ap length same in
    absurd (omega (arith, none, some))

pub seen_among : (found : List (List ℕ)) (text : List ℕ) → list_any (pointwise nat_eq text) found ≡ true → list_any (pointwise nat_eq text) ([] ∷ found) ≡ true
seen_among found [] is = refl
seen_among found (code ∷ codes) is = is

pub not_seen : (found : List (List ℕ)) (text asked : List ℕ) (empty : Bool) → asked ≡ text → empty ≡ nat_eq (length asked) 0 → empty ≡ false
    → list_any (pointwise nat_eq text) found ≡ false → list_any (pointwise nat_eq text) ([] ∷ found) ≡ false
not_seen found [] asked empty same reported some is = absurd (false≢true (sym some ∙ reported ∙ eq-eqb (length asked) 0 (ap length same)))
not_seen found (code ∷ codes) asked empty same reported some is = is

-- ---- the texts of paths

-- a name's path, by the texts of the variables' paths
pub name_text : (scope : Scope) (paths : VariablePaths) (bound : List NamedText) (asked : List ℕ) → AreBound scope paths bound
    → path_text (unwrap_or (variable_path scope paths asked) (asked ∷ [])) ≡ unwrap_or (text_named bound asked) asked
name_text [] [] [] asked are = refl
name_text [] [] (b ∷ bound) asked are = absurd are
name_text [] (p ∷ paths) bound asked are = absurd are
name_text (v ∷ scope) [] bound asked are = absurd are
name_text (v ∷ scope) (p ∷ paths) [] asked are = absurd are
name_text (v ∷ scope) (p ∷ paths) (b ∷ bound) asked are =
    by (pointwise nat_eq asked v.name) are.1 (name_text scope paths bound asked are.2)
    ∙ ap (λ (called : List ℕ). unwrap_or (cond (pointwise nat_eq asked called) (Some b.text) (text_named bound asked)) asked) (sym are.0)
  where
    by : (t : Bool) → b.text ≡ path_text p → path_text (unwrap_or (variable_path scope paths asked) (asked ∷ [])) ≡ unwrap_or (text_named bound asked) asked
        → path_text (unwrap_or (cond t (Some p) (variable_path scope paths asked)) (asked ∷ [])) ≡ unwrap_or (cond t (Some b.text) (text_named bound asked)) asked
    by true own outer = sym own
    by false own outer = outer

-- ---- the variables of the code

pub bound_in-Empty : bound_in Empty ≡ []
bound_in-Empty = search (rules, the_lemmas)

pub bound_in-Bound : (called text : Bor (List ℕ)) (outer : Bor Variables) → bound_in (Bound called text outer) ≡ record { name = called.now; text = text.now } ∷ bound_in outer.now
bound_in-Bound called text outer = search (rules, the_lemmas)
