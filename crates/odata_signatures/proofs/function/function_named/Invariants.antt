use Rattle.std.proofs.Common.{ℕ, ◌<◌, slice_index_or}
use Rattle.std.specs.Str.{str_to_ascii_lowercase}
use Rattle.odata_signatures.specs.declared.function.Function.{Function}
use Rattle.odata_signatures.specs.Functions.{IsNamed}
use Rattle.odata_signatures.proofs.function.function_named.Given as goal

-- none of those so far has the name
abbrev pub invariant-loop-function : goal.invariant-loop-function
invariant-loop-function l =
    (k : ℕ) (other : Function) → k < l.function-index → ¬ IsNamed (slice_index_or l.function-items k other) (str_to_ascii_lowercase l.name)
