use Rattle.odata_ranges.proofs.Common.{inl, inr, ap, arith, ints, Range}
use Rattle.odata_ranges.proofs.Calculations.{never_false}
use Rattle.odata_ranges.proofs.arithmetic_ranges.met.Goals as goal

pub returns-then-last-first-clause-faults : goal.returns-then-last-first-clause-faults
returns-then-last-first-clause-faults c = λ safe.
    absurd (never_false c.with_faults.result.may_fault c.args.within.may_fault (ap (λ (r : Range). r.may_fault) c.with_faults.ensures) safe)

pub returns-clause-faults : goal.returns-clause-faults
returns-clause-faults c = λ safe n between.
    let inside = c.goes_past.ensures.inside safe in (omega (arith, ints, inside.0, between.0), omega (arith, ints, inside.1, between.1))

pub returns-then-last-first-clause-past : goal.returns-then-last-first-clause-past
returns-then-last-first-clause-past c = λ ordered may.
    elim c.greatest-first.ensures.one [
      | inl first ↦ elim c.least-last.ensures.one [ inl last ↦ absurd (omega (arith, ints, ordered)) | inr last ↦ inr (omega (arith, ints, ordered)) ]
      | inr first ↦ elim c.least-last.ensures.one [ inl last ↦ inl (omega (arith, ints, ordered)) | inr last ↦ absurd (omega (arith, ints, c.requires.ordered)) ]
    ]

pub returns-clause-past : goal.returns-clause-past
returns-clause-past c = λ ordered may.
    elim (c.goes_past.ensures.past may) [
      | inl below ↦ inl (omega (arith, ints, below))
      | inr above ↦ inr (omega (arith, ints, above))
    ]
