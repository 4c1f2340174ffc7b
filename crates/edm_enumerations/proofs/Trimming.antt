-- Texts without the spaces at their ends, as the calls that trim give them.
use Rattle.std.proofs.Common.{◌≡◌, ◌≢◌, inl, inr, ℕ, ◌-◌, List, [], ◌∷◌, ◌++◌, length, take, drop, arith, refl, sym, ◌∙◌, ap, lit<, Option, Some, None, IfSome}
use Rattle.std.proofs.lemmas.Bool.Decides.{eqb_tells}
use Rattle.std.proofs.Math.ListN.{take-append-drop}
use Rattle.std.proofs.lemmas.List.{drop_all}
use Rattle.std.proofs.lemmas.Str.{encode_ascii}
use Rattle.std.specs.Str.Pattern.{HasCharAt, FindsCharPrefix, FindsCharSuffix, CutsPrefixes, CutsSuffixes, IsTrimStartMatches, IsTrimEndMatches}
use Rattle.edm_enumerations.specs.Spaces.{without_leading_spaces, onto_kept, without_trailing_spaces}

-- ---- at the start

-- a text that begins with a space
led : (m : List ℕ) (n : ℕ) → HasCharAt 32 m 0 n → m ≡ 32 ∷ drop n m
led m n at = at.split ∙ ap (λ (xs : List ℕ). xs ++ drop n m) (encode_ascii 32 (lit< tt))

cuts_leading : (ns : List ℕ) (s r : List ℕ) → CutsPrefixes (FindsCharPrefix 32) s ns r → without_leading_spaces s ≡ without_leading_spaces r
cuts_leading [] s r cuts = ap without_leading_spaces (sym cuts)
cuts_leading (n ∷ ns) s r cuts =
    cuts_leading ns s cuts.0 cuts.1 ∙ ap without_leading_spaces (led cuts.0 n cuts.2 ∙ ap (λ (xs : List ℕ). 32 ∷ xs) (sym cuts.3))

led_by_none : (r : List ℕ) → ((rest : List ℕ) → r ≢ 32 ∷ rest) → without_leading_spaces r ≡ r
led_by_none [] none = refl
led_by_none (c ∷ cs) none =
    elim (eqb_tells c 32) [
      | inl same ↦ absurd (none cs (ap (λ (x : ℕ). x ∷ cs) same.1))
      | inr other ↦ rw other.0 refl
    ]

-- where no space is cut off the start, none is there
no_leading : (r : List ℕ) (o : Option ℕ) → FindsCharPrefix 32 r o → ((n : ℕ) → o ≡ Some n → n ≡ 0) → without_leading_spaces r ≡ r
no_leading r None finds empty = led_by_none r (λ rest same. finds rest (same ∙ ap (λ (xs : List ℕ). xs ++ rest) (sym (encode_ascii 32 (lit< tt)))))
no_leading r (Some n) finds empty = let none : n ≡ 0 = empty n refl in absurd (omega (arith, finds.ends))

pub trim_start_spaces : (s r : List ℕ) → IsTrimStartMatches (FindsCharPrefix 32) s r → r ≡ without_leading_spaces s
trim_start_spaces s r is = sym (cuts_leading is.0.0 s r is.0.1 ∙ ended is.1.0 is.1.1 is.1.2)
  where
    ended : (o : Option ℕ) → FindsCharPrefix 32 r o → IfSome o (λ n. n ≡ 0) → without_leading_spaces r ≡ r
    ended None finds none = no_leading r None finds (λ n same. cc)
    ended (Some n) finds none = no_leading r (Some n) finds (λ k same. let e : k ≡ n = cc in e ∙ none)

-- ---- at the end

spaced : (xs : List ℕ) → without_trailing_spaces (xs ++ 32 ∷ []) ≡ without_trailing_spaces xs
spaced [] = refl
spaced (x ∷ xs) = ap (onto_kept x) (spaced xs)

-- a text that ends with a space
trailed : (m : List ℕ) (n : ℕ) → FindsCharSuffix 32 m (Some n) → m ≡ take (length m - n) m ++ 32 ∷ []
trailed m n finds =
    let ends : drop (length m - n) m ≡ 32 ∷ [] =
    finds.1.split ∙ ap (λ (xs : List ℕ). xs ++ drop (length m) m) (encode_ascii 32 (lit< tt)) ∙ ap (λ (xs : List ℕ). 32 ∷ xs) (drop_all (length m) m (omega arith)) in
    sym (take-append-drop (length m - n) m) ∙ ap (λ (xs : List ℕ). take (length m - n) m ++ xs) ends

cuts_trailing : (ns : List ℕ) (s r : List ℕ) → CutsSuffixes (FindsCharSuffix 32) s ns r → without_trailing_spaces s ≡ without_trailing_spaces r
cuts_trailing [] s r cuts = ap without_trailing_spaces (sym cuts)
cuts_trailing (n ∷ ns) s r cuts =
    cuts_trailing ns s cuts.0 cuts.1
    ∙ ap without_trailing_spaces (trailed cuts.0 n cuts.2 ∙ ap (λ (xs : List ℕ). xs ++ 32 ∷ []) (sym cuts.3))
    ∙ spaced r

trailed_by_none : (r : List ℕ) → ((front : List ℕ) → r ≢ front ++ 32 ∷ []) → without_trailing_spaces r ≡ r
trailed_by_none [] none = refl
trailed_by_none (c ∷ []) none =
    elim (eqb_tells c 32) [
      | inl same ↦ absurd (none [] (ap (λ (x : ℕ). x ∷ []) same.1))
      | inr other ↦ rw other.0 refl
    ]
trailed_by_none (c ∷ d ∷ ds) none =
    ap (onto_kept c) (trailed_by_none (d ∷ ds) (λ front same. none (c ∷ front) (ap (λ (xs : List ℕ). c ∷ xs) same)))

pub trim_end_spaces : (s r : List ℕ) → IsTrimEndMatches (FindsCharSuffix 32) s r → r ≡ without_trailing_spaces s
trim_end_spaces s r is = sym (cuts_trailing is.0.0 s r is.0.1 ∙ ended is.1.0 is.1.1 is.1.2)
  where
    ended : (o : Option ℕ) → FindsCharSuffix 32 r o → IfSome o (λ n. n ≡ 0) → without_trailing_spaces r ≡ r
    ended None finds none = trailed_by_none r (λ front same. finds front (same ∙ ap (λ (xs : List ℕ). front ++ xs) (sym (encode_ascii 32 (lit< tt)))))
    ended (Some n) finds none = absurd (omega (arith, finds.0, none))
