use Rattle.std.proofs.Common.{string_bytes}
use Rattle.odata_checked_filter.proofs.explained.Lines.{IsReported}
use Rattle.odata_checked_filter.proofs.explanation.explanation_of.Given as goal

-- the nodes before the index have their lines
abbrev pub invariant-loop-place : goal.invariant-loop-place
invariant-loop-place l = IsReported l.checked l.place l.around.items (string_bytes l.text)
