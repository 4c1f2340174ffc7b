use Rattle.odata_text.proofs.Common.{below_more, ◌≡◌, ℕ, ◌<◌, arith, true, get_or, sym, ◌∙◌, passes, Digit}
use Rattle.odata_text.proofs.spellings.Patterns.{pattern-short, pattern-fails, pattern-stands}
use Rattle.odata_text.proofs.byte_test.pattern_length.Goals as goal

pub returns-then-rest-pattern : goal.returns-then-rest-pattern
returns-then-rest-pattern c = pattern-short c.args.pattern.now c.args.rest.now c.if-rest-pattern.true

pub returns-then-not-passes : goal.returns-then-not-passes
returns-then-not-passes c =
    pattern-fails c.args.pattern.now c.args.rest.now c.loop-i.i Digit c.loop-i-test.true (sym c.passes.ensures ∙ c.if-not-passes.true)

pub loop-i-preserved : goal.loop-i-preserved
loop-i-preserved c =
    below_more (λ (k : ℕ). passes (get_or c.args.pattern.now k Digit) (get_or c.args.rest.now k 0) ≡ true) c.loop-i.i
    c.loop-i.invariant (sym c.passes.ensures ∙ c.if-not-passes.false)

pub returns : goal.returns
returns c =
    pattern-stands c.args.pattern.now c.args.rest.now Digit c.if-rest-pattern.false
    (λ k below. let within : k < c.loop-i.i = omega arith in c.loop-i.invariant k within)
