use Rattle.std.proofs.Common.{◌≡◌, ◌*◌, ◌++◌, string_bytes}
use Rattle.std.specs.Prelude.{replicate}
use Rattle.odata_checked_filter.proofs.explanation.push_indent.Given as goal

-- as many spaces as nodes around were counted, twice
abbrev pub invariant-loop-done : goal.invariant-loop-done
invariant-loop-done l = string_bytes l.text ≡ string_bytes l.initial.text ++ replicate (2 * l._done) 32
