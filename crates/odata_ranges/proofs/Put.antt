-- Ranges put one before another.
use Rattle.odata_ranges.proofs.Common.{◌≡◌, ◌∙◌, ◌⊎◌, ◌<◌, ◌≤◌, ◌+◌, inl, inr, ℕ, zero, suc, List, [], ◌∷◌, Some, length, slice_get, slice_set, refl, sym, subst, arith, slice_get_within, Filter, CheckedNode, AreReportedFrom, ReportsFaults, AreRangesFrom, IsRangeAt, Range}
use Rattle.odata_ranges.proofs.Values.{before_or_past}

put_there : (xs : List Range) (k : ℕ) (x y : Range) → slice_get (slice_set xs k x) k ≡ Some y → x ≡ y
put_there [] k x y is = absurd (cc)
put_there (z ∷ xs) zero x y is = cc
put_there (z ∷ xs) (suc k) x y is = put_there xs k x y is

get_beside : (xs : List Range) (k j : ℕ) (x : Range) → k < j → slice_get (slice_set xs k x) j ≡ slice_get xs j
get_beside [] k j x less = refl
get_beside (z ∷ xs) zero zero x less = absurd (omega (arith, less))
get_beside (z ∷ xs) zero (suc j) x less = refl
get_beside (z ∷ xs) (suc k) zero x less = absurd (omega (arith, less))
get_beside (z ∷ xs) (suc k) (suc j) x less = get_beside xs k j x (omega arith)

pub at_or_after : (k j : ℕ) → k ≤ j → (j ≡ k) ⊎ (k < j)
at_or_after k j most = before_or_past k j (λ less. inr less) (λ past. inl (omega (arith, most, past)))

pub put_range : (filter : Filter) (ranges : List Range) (place : ℕ) (range : Range) → AreRangesFrom filter (place + 1) ranges → IsRangeAt filter place range
    → AreRangesFrom filter place (slice_set ranges place range)
put_range filter ranges place range after is = λ k other from found.
    elim (at_or_after place k from) [
      | inl same ↦ (
          let is_other : range ≡ other = put_there ranges place range other (subst (λ (n : ℕ). slice_get (slice_set ranges place range) n ≡ Some other) same found) in
          subst (λ (n : ℕ). IsRangeAt filter n other) (sym same) (subst (IsRangeAt filter place) is_other is)
          )
      | inr less ↦ after k other (omega (arith, less)) (sym (get_beside ranges place k range less) ∙ found)
    ]

pub none_after : (filter : Filter) (ranges : List Range) (place : ℕ) → length ranges ≤ place → AreRangesFrom filter place ranges
none_after filter ranges place past = λ k range from found. let within = slice_get_within ranges k range found in absurd (omega (arith, past, from, within))

-- ---- what they report of faults

reported_beside : (xs : List Range) (k : ℕ) (x : Range) (place : ℕ) (node : CheckedNode) (range : Range) → k ≤ place → ReportsFaults xs place node range
    → ReportsFaults (slice_set xs k x) place node range
reported_beside xs k x place node range before reported = record {
  inherits = λ none n other after within found. reported.inherits none n other after within (sym (get_beside xs k n x (omega (arith, before, after))) ∙ found);
  owns = λ makes quiet. reported.owns makes (λ n other after within found. quiet n other after within (get_beside xs k n x (omega (arith, before, after)) ∙ found));
  entity = reported.entity;
}

pub put_reported : (filter : Filter) (ranges : List Range) (place : ℕ) (range : Range) → AreReportedFrom filter (place + 1) ranges
    → ((node : CheckedNode) → slice_get filter.list.nodes place ≡ Some node → ReportsFaults ranges place node range) → AreReportedFrom filter place (slice_set ranges place range)
put_reported filter ranges place range after is = λ k node other from at found.
    elim (at_or_after place k from) [
      | inl same ↦ (
          let is_other : range ≡ other = put_there ranges place range other (subst (λ (n : ℕ). slice_get (slice_set ranges place range) n ≡ Some other) same found) in
          let reported : ReportsFaults ranges place node range = is node (subst (λ (n : ℕ). slice_get filter.list.nodes n ≡ Some node) same at) in
          reported_beside ranges place range k node other from
          (subst (λ (n : ℕ). ReportsFaults ranges n node other) (sym same) (subst (ReportsFaults ranges place node) is_other reported))
          )
      | inr less ↦ reported_beside ranges place range k node other from (after k node other (omega (arith, less)) at (sym (get_beside ranges place k range less) ∙ found))
    ]

pub none_reported : (filter : Filter) (ranges : List Range) (place : ℕ) → length ranges ≤ place → AreReportedFrom filter place ranges
none_reported filter ranges place past = λ k node range from at found. let within = slice_get_within ranges k range found in absurd (omega (arith, past, from, within))
