use Rattle.odata_text.proofs.Common.{◌≡◌, ℕ, ◌<◌, true, get_or, passes, Digit}
use Rattle.odata_text.proofs.byte_test.pattern_length.Given as goal

abbrev pub invariant-loop-i : goal.invariant-loop-i
invariant-loop-i l = (k : ℕ) → k < l.i → passes (get_or l.pattern k Digit) (get_or l.rest k 0) ≡ true
