-- Flags of two ranges in one.
use Rattle.odata_ranges.proofs.Common.{◌≡◌, ◌∙◌, Bool, true, false, ◌||◌, refl, Range}
use Rattle.odata_ranges.specs.private.OperatorRanges.{CoversFaults, CoversNulls}

pub of_left : (x a b : Bool) → x ≡ (a || b) → a ≡ true → x ≡ true
of_left x true b same is = same
of_left x false b same is = cc

pub of_right : (x a b : Bool) → x ≡ (a || b) → b ≡ true → x ≡ true
of_right x true b same is = same
of_right x false b same is = same ∙ is

-- a flag of both
pub both_faults : (result left right : Range) (either : Bool) → either ≡ (left.may_fault || right.may_fault) → (either ≡ true → result.may_fault ≡ true) → CoversFaults result left right
both_faults result left right either same passes = record {
  first = λ may. passes (of_left either left.may_fault right.may_fault same may);
  second = λ may. passes (of_right either left.may_fault right.may_fault same may);
}

pub both_nulls : (result left right : Range) (either : Bool) → either ≡ (left.may_be_null || right.may_be_null) → (either ≡ true → result.may_be_null ≡ true) → CoversNulls result left right
both_nulls result left right either same passes = record {
  first = λ may. passes (of_left either left.may_be_null right.may_be_null same may);
  second = λ may. passes (of_right either left.may_be_null right.may_be_null same may);
}

pub neither : (x a b : Bool) → x ≡ (a || b) → a ≡ false → b ≡ false → x ≡ false
neither x false false same is_a is_b = same
neither x false true same is_a is_b = absurd (cc)
neither x true b same is_a is_b = absurd (cc)

pub both_none : (x a b : Bool) → x ≡ (a || b) → x ≡ false → (a ≡ false) × (b ≡ false)
both_none x false false same is = (refl, refl)
both_none x false true same is = let may : x ≡ true = same in absurd (cc)
both_none x true b same is = let may : x ≡ true = same in absurd (cc)
