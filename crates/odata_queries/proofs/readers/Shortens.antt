-- Long escapes that are shortened, a byte after another.
use Rattle.std.proofs.lemmas.Bool.{cond-false, ne_eqb}
use Rattle.std.proofs.lemmas.List.{drop_all, drop_more}
use Rattle.odata_queries.proofs.Common.{◌≡◌, ℕ, ◌+◌, ◌-◌, ◌<◌, ◌≤◌, ◌==◌, Bool, cond, List, [], ◌∷◌, ◌++◌, length, drop, get_or, append_assoc, refl, sym, ◌∙◌, ap}
use Rattle.odata_queries.specs.Disguise.{is_long_escape, shortened}

keeps : (text : List ℕ) (place : ℕ) → place < length text → shortened 0 (drop place text) ≡ get_or text place 0 ∷ shortened (cond {A = ℕ} (is_long_escape (drop place text)) 3 0) (drop (place + 1) text)
unfolding shortened
keeps text place within =
    let more = drop_more text place 0 within in
    ap (shortened 0) more ∙ ap (λ (l : List ℕ). get_or text place 0 ∷ shortened (cond {A = ℕ} (is_long_escape l) 3 0) (drop (place + 1) text)) (sym more)

passes : (text : List ℕ) (place skipped : ℕ) → place < length text → (skipped ≡ 0 → ⊥) → shortened skipped (drop place text) ≡ shortened (skipped - 1) (drop (place + 1) text)
unfolding shortened
passes text place skipped within some =
    ap (shortened skipped) (drop_more text place 0 within)
    ∙ cond-false (skipped == 0) (get_or text place 0 ∷ shortened (cond {A = ℕ} (is_long_escape (get_or text place 0 ∷ drop (place + 1) text)) 3 0) (drop (place + 1) text)) (shortened (skipped - 1) (drop (place + 1) text)) (ne_eqb skipped 0 some)

-- a byte that is kept
pub kept-byte : (text items bytes : List ℕ) (place skipped next : ℕ) (long : Bool) → place < length text → skipped ≡ 0 → bytes ≡ items ++ get_or text place 0 ∷ [] → is_long_escape (drop place text) ≡ long → next ≡ cond {A = ℕ} long 3 0
    → bytes ++ shortened next (drop (place + 1) text) ≡ items ++ shortened skipped (drop place text)
kept-byte text items bytes place skipped next long within none kept is goes =
    ap (λ (l : List ℕ). l ++ shortened next (drop (place + 1) text)) kept
    ∙ append_assoc items (get_or text place 0 ∷ []) (shortened next (drop (place + 1) text))
    ∙ ap (λ (n : ℕ). items ++ (get_or text place 0 ∷ shortened n (drop (place + 1) text))) (goes ∙ ap (λ (b : Bool). cond {A = ℕ} b 3 0) (sym is))
    ∙ ap (λ (l : List ℕ). items ++ l) (sym (keeps text place within))
    ∙ ap (λ (n : ℕ). items ++ shortened n (drop place text)) (sym none)

-- a byte that is left out
pub passed-byte : (text items bytes : List ℕ) (place skipped next : ℕ) → place < length text → (skipped ≡ 0 → ⊥) → bytes ≡ items → next ≡ skipped - 1 → bytes ++ shortened next (drop (place + 1) text) ≡ items ++ shortened skipped (drop place text)
passed-byte text items bytes place skipped next within some kept goes =
    ap (λ (l : List ℕ). l ++ shortened next (drop (place + 1) text)) kept
    ∙ ap (λ (n : ℕ). items ++ shortened n (drop (place + 1) text)) goes
    ∙ ap (λ (l : List ℕ). items ++ l) (sym (passes text place skipped within some))

nothing : (skipped : ℕ) → shortened skipped [] ≡ []
unfolding shortened
nothing skipped = refl

-- after the last byte nothing is left
pub none-left : (text : List ℕ) (place skipped : ℕ) → length text ≤ place → shortened skipped (drop place text) ≡ []
none-left text place skipped past = ap (shortened skipped) (drop_all place text past) ∙ nothing skipped
