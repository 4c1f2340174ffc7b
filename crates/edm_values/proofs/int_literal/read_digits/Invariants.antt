use Rattle.std.proofs.Common.{◌≡◌, ◌<◌, ◌^◌, take}
use Rattle.std.specs.Str.Parse.{AllDigits, digits_value}
use Rattle.edm_values.proofs.int_literal.read_digits.Given as goal

-- the digits so far and their number
abbrev pub invariant-loop-digit : goal.invariant-loop-digit
invariant-loop-digit l =
    AllDigits 10 (take l.digit-index l.digits) × (l.number ≡ digits_value 10 (take l.digit-index l.digits)) × (l.number < 10 ^ l.digit-index)
