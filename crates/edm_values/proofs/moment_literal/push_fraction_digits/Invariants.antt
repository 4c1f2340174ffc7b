use Rattle.std.proofs.Common.{◌≡◌, ◌<◌, ◌≤◌, ◌^◌, ◌++◌, string_bytes}
use Rattle.edm_values.specs.MomentLiteral.{significant_digits}
use Rattle.edm_values.proofs.moment_literal.push_fraction_digits.Given as goal

-- what is written and the digits of what is left are all the digits
abbrev pub invariant-loop-rest : goal.invariant-loop-rest
invariant-loop-rest l =
    (l.digits_left ≤ 9) × (l.rest < 10 ^ l.digits_left)
    × (string_bytes l.text ++ significant_digits l.digits_left l.rest ≡ string_bytes l.initial.text ++ significant_digits 9 l.fn.nanoseconds)

abbrev pub decreases-loop-rest : goal.decreases-loop-rest
decreases-loop-rest l = l.digits_left
