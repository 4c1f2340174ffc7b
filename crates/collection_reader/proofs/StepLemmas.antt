-- Steps of the scan, one after another.
use Rattle.std.proofs.Common.{◌≡◌, ℕ, List, [], ◌∷◌, ◌++◌, refl, sym, ap, ◌∙◌}
use Rattle.std.proofs.lemmas.List.{append-nil, append_assoc}
use Rattle.collection_reader.specs.private.ItemText.{Moved, Scanned, end_of, step, steps, text_left}

-- bytes and then others
pub steps-append : (s : Scanned) (xs ys : List ℕ)
    → steps s (xs ++ ys) ≡ record { scanned = (steps (steps s xs).scanned ys).scanned; put = (steps s xs).put ++ (steps (steps s xs).scanned ys).put }
unfolding steps
steps-append s [] ys = refl
steps-append s (x ∷ xs) ys =
    let later = steps-append (step s x).scanned xs ys in
    ap (λ (m : Moved). record { scanned = m.scanned; put = (step s x).put ++ m.put }) later
    ∙ ap (λ (p : List ℕ). record { scanned = (steps (steps (step s x).scanned xs).scanned ys).scanned; put = p })
    (sym (append_assoc (step s x).put (steps (step s x).scanned xs).put (steps (steps (step s x).scanned xs).scanned ys).put))

-- one byte more
pub steps-one : (s : Scanned) (x : ℕ) → steps s (x ∷ []) ≡ step s x
unfolding steps
steps-one s x = ap (λ (p : List ℕ). record { scanned = (step s x).scanned; put = p }) (append-nil (step s x).put)

pub steps-push : (s : Scanned) (xs : List ℕ) (x : ℕ)
    → steps s (xs ++ x ∷ []) ≡ record { scanned = (step (steps s xs).scanned x).scanned; put = (steps s xs).put ++ (step (steps s xs).scanned x).put }
steps-push s xs x =
    steps-append s xs (x ∷ [])
    ∙ ap (λ (m : Moved). record { scanned = m.scanned; put = (steps s xs).put ++ m.put }) (steps-one (steps s xs).scanned x)

-- what is left after some bytes
pub text_left-append : (s : Scanned) (xs ys : List ℕ) → text_left s (xs ++ ys) ≡ (steps s xs).put ++ text_left (steps s xs).scanned ys
unfolding text_left
text_left-append s xs ys =
    ap (λ (m : Moved). m.put ++ end_of m.scanned) (steps-append s xs ys)
    ∙ append_assoc (steps s xs).put (steps (steps s xs).scanned ys).put _

pub text_left-byte : (s : Scanned) (x : ℕ) (ys : List ℕ) → text_left s (x ∷ ys) ≡ (step s x).put ++ text_left (step s x).scanned ys
text_left-byte s x ys =
    text_left-append s (x ∷ []) ys ∙ ap (λ (m : Moved). m.put ++ text_left m.scanned ys) (steps-one s x)

-- at the end
pub text_left-nil : (s : Scanned) → text_left s [] ≡ end_of s
unfolding text_left steps
text_left-nil s = refl
