-- Bytes that begin with others, byte by byte.
use Rattle.std.proofs.Common.{◌≡◌, ◌∙◌, ℕ, ◌+◌, ◌<◌, ◌≤◌, List, ◌++◌, length, take, drop, arith, sym, ap}
use Rattle.std.proofs.lemmas.List.{get_or_append_left, length-append, take-append-drop, take_all, take_more_same}
use Rattle.std.specs.Prelude.{slice_index}
use Rattle.odata_functions.specs.Texts.{HasStart}

module _ (all front : List ℕ) where
  pub too_long : length all < length front → ¬ HasStart all front
  too_long longer (behind, e) = let whole : length all ≡ length front + length behind = ap length e ∙ length-append front behind in absurd (omega arith)

  pub further : (at : ℕ) → length front ≤ length all → at < length front → take at all ≡ take at front → slice_index all at ≡ slice_index front at
      → take (at + 1) all ≡ take (at + 1) front
  further at fits within so_far here = take_more_same all front at 0 (omega arith) within so_far here

  pub differs : (at : ℕ) → at < length front → ¬ (slice_index all at ≡ slice_index front at) → ¬ HasStart all front
  differs at within other (behind, e) = other (ap (λ (l : List ℕ). slice_index l at) e ∙ get_or_append_left front behind 0 at within)

  pub begins : (at : ℕ) → length front ≤ at → take at all ≡ take at front → HasStart all front
  begins at through same =
      (drop at all, sym (take-append-drop at all) ∙ ap (λ (l : List ℕ). l ++ drop at all) (same ∙ take_all at front through))
