use Rattle.std.proofs.Common.{arith}
use Rattle.std.proofs.lemmas.Str.{IsCharBoundary-start}
use Rattle.fault_json.proofs.utf16_span.utf16_span.Goals as goal

pub returns-in_err-get : goal.returns-in_err-get
returns-in_err-get c =
    rw c.from_residual.ensures (λ begins. absurd (c.in_err-get.ensures.cases (omega arith) (IsCharBoundary-start c.args.text.now c.utf8.text) begins))

pub returns-in_err-get-2 : goal.returns-in_err-get-2
returns-in_err-get-2 c =
    rw c.from_residual-in_err-get-2.ensures (λ begins ends. c.in_err-get-2.ensures.cases (omega arith) (IsCharBoundary-start c.args.text.now c.utf8.text) ends)
