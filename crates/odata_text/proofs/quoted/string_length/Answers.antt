use Rattle.odata_text.proofs.Common.{◌≡◌, ℕ, length, arith, subst}
use Rattle.odata_text.proofs.spellings.Quotes.{IsQuotedSoFar, quoted_so_far-over, quoted_so_far-end}
use Rattle.odata_text.proofs.quoted.string_length.Goals as goal

pub returns-in-Over : goal.returns-in-Over
returns-in-Over c =
    quoted_so_far-over c.args.rest.now c.loop-i.i c.loop-i.quoted c.quoted_after-quoted.result c.loop-i.length
    c.loop-i-test.true c.loop-i.invariant c.quoted_after-quoted.ensures c.in-Over.is

pub returns : goal.returns
returns c =
    let read : c.loop-i.i ≡ length c.args.rest.now = omega arith in
    quoted_so_far-end c.args.rest.now c.loop-i.quoted c.loop-i.length
    (subst (λ (i : ℕ). IsQuotedSoFar c.args.rest.now i c.loop-i.quoted c.loop-i.length) read c.loop-i.invariant)
