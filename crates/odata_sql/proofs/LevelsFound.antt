-- Levels of a filter, counted in one pass over its nodes.
use Rattle.std.proofs.Common.{◌≡◌, ◌↔◌, ◌<◌, ◌≤◌, ◌+◌, ◌∙◌, ◌++◌, ℕ, suc, Option, List, [], ◌∷◌, Bool, true, false, IsTrue, Some, length, nat_lt, slice_get, ⊎_elim, refl, sym, ap, subst, arith}
use Rattle.std.specs.Prelude.{filter, if◌then◌else◌}
use Rattle.std.proofs.lemmas.Bool.{cases_lt}
use Rattle.std.proofs.lemmas.Bool.Decides.{nat_tests}
use Rattle.std.proofs.lemmas.List.Elements.{filter-append}
use Rattle.odata_checked_filter.specs.declared.checked_node.CheckedNode.{CheckedNode}
use Rattle.odata_checked_filter.specs.declared.checked_node.NodeKind.{NodeKind}
use Rattle.odata_sql.specs.Nesting.{ExceedsLevels, kind_before, kind_of_any, level_stop, level_stops, levels_around, most_levels}

above : (a b : ℕ) → a < b → nat_lt a b ≡ true
above a b h = grind (arith, nat_tests)

below : (a b : ℕ) → b ≤ a → nat_lt a b ≡ false
below a b h = grind (arith, nat_tests)

-- those that stop after an index
abbrev pub open_at : ℕ → List ℕ → List ℕ
open_at at stops = filter (λ stop. nat_lt at stop) stops

-- what stops after the next index stops after this one
open_later : (at : ℕ) (stops : List ℕ) → open_at (at + 1) (open_at at stops) ≡ open_at (at + 1) stops
open_later at [] = refl
open_later at (stop ∷ stops) =
    ⊎_elim
    (λ goes. rw (above at stop goes) (ap (λ (ys : List ℕ). if nat_lt (at + 1) stop then stop ∷ ys else ys) (open_later at stops)))
    (λ ended. let past : stop ≤ at + 1 = omega (arith, ended) in rw (below at stop ended) (rw (below (at + 1) stop past) (open_later at stops)))
    (cases_lt at stop)

module _ (nodes : List CheckedNode) where
  -- before the node at an index
  pub record AreLevelsTo (at : ℕ) (before : NodeKind) (around : List ℕ) : Type 0 where
    pub kind : before ≡ kind_before nodes at
    pub stops : open_at at around ≡ open_at at (level_stops nodes at)
    pub few : (k : ℕ) → k < at → levels_around nodes k ≤ most_levels

  pub none_yet : (around : List ℕ) → around ≡ [] → AreLevelsTo 0 NodeKind.It around
  none_yet around none = record { kind = refl; stops = ap (open_at 0) none; few = λ k lower. absurd (omega (arith, lower)) }

  module _ (at : ℕ) (before : NodeKind) (around kept : List ℕ) (so_far : AreLevelsTo at before around) (is_kept : kept ≡ open_at at around) where
    counted : length kept ≡ levels_around nodes at
    counted = ap (λ (xs : List ℕ). length xs) (is_kept ∙ so_far.stops)

    pub one_exceeds : at < length nodes → most_levels < length kept → IsTrue true ↔ ExceedsLevels nodes
    one_exceeds within many =
        let more : most_levels < levels_around nodes at = subst (λ (n : ℕ). most_levels < n) counted many in
        (λ (holds : IsTrue true). (at, within, more), λ (is : ExceedsLevels nodes). refl)

    module _ (node : CheckedNode) (next : List ℕ) (there : slice_get nodes at ≡ Some node) (few : length kept ≤ most_levels) (is_next : next ≡ kept ++ level_stop before (Some node)) where
      next_kind : node.kind ≡ kind_before nodes (suc at)
      next_kind = ap kind_of_any (sym there)

      next_stops : level_stops nodes at ++ level_stop before (Some node) ≡ level_stops nodes (suc at)
      next_stops =
          ap (λ (b : NodeKind). level_stops nodes at ++ level_stop b (Some node)) so_far.kind
          ∙ ap (λ (o : Option CheckedNode). level_stops nodes at ++ level_stop (kind_before nodes at) o) (sym there)

      next_open : open_at (at + 1) next ≡ open_at (at + 1) (level_stops nodes (suc at))
      next_open =
          let last = level_stop before (Some node) in
          let P : ℕ → Bool = λ stop. nat_lt (at + 1) stop in
          ap (open_at (at + 1)) (is_next ∙ ap (λ (xs : List ℕ). xs ++ last) (is_kept ∙ so_far.stops))
          ∙ filter-append P (open_at at (level_stops nodes at)) last
          ∙ ap (λ (xs : List ℕ). xs ++ open_at (at + 1) last) (open_later at (level_stops nodes at))
          ∙ sym (filter-append P (level_stops nodes at) last)
          ∙ ap (open_at (at + 1)) next_stops

      pub one_counted : AreLevelsTo (at + 1) node.kind next
      one_counted =
          let e : suc at ≡ at + 1 = omega arith in
          record {
            kind = subst (λ (n : ℕ). node.kind ≡ kind_before nodes n) e next_kind;
            stops = subst (λ (n : ℕ). open_at (at + 1) next ≡ open_at (at + 1) (level_stops nodes n)) e next_open;
            few = λ k lower.
                ⊎_elim (λ earlier. so_far.few k earlier)
                (λ later. let same : at ≡ k = omega (arith, lower, later) in subst (λ (n : ℕ). levels_around nodes n ≤ most_levels) same (subst (λ (n : ℕ). n ≤ most_levels) counted few))
                (cases_lt k at);
          }

  pub none_exceeds : (at : ℕ) (before : NodeKind) (around : List ℕ) → AreLevelsTo at before around → length nodes ≤ at → IsTrue false ↔ ExceedsLevels nodes
  none_exceeds at before around so_far past = (
    λ (holds : IsTrue false). absurd (cc),
    λ (is : ExceedsLevels nodes).
        let within : is.0 < at = (let inside = is.1 in omega (arith, inside, past)) in
        let few : levels_around nodes is.0 ≤ most_levels = so_far.few is.0 within in
        let many : most_levels < levels_around nodes is.0 = is.2 in
        absurd (omega (arith, few, many)),
  )
