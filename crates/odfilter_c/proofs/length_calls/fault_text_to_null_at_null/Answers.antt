use Rattle.std.proofs.Common.{◌≡◌, ℕ, List, [], arith, subst}
use Rattle.odfilter_c.specs.Loans.{UnlessLong}
use Rattle.report_calls.specs.Sentences.{ReportsSentenceFor}
use Rattle.odfilter_c.proofs.length_calls.fault_text_to_null_at_null.Goals as goal

pub returns : goal.returns
returns c =
    let new = c.fault_text_at_null.new.sentence in
    let answer = c.fault_text_at_null.new.answer in
    let status = c.fault_text_at_null.result in
    let said =
    subst (λ (old : List ℕ). UnlessLong c.args.text_length ((new ≡ old) × ((answer ≡ c.args.answer.now) × (status ≡ 1))) (ReportsSentenceFor c.args.given.now c.args.status [] old new c.args.fault.now answer status))
    c.as_mut_slice.ensures.value c.fault_text_at_null.ensures in
    ((λ _. (new, said)), (λ long. let short = c.if-length-gt0.false in absurd (omega (arith, long, short))))
