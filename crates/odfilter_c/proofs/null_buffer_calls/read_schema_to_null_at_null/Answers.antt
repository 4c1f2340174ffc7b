use Rattle.std.proofs.Common.{◌≡◌, ℕ, List, [], arith, subst}
use Rattle.odfilter_c.specs.Loans.{UnlessLong}
use Rattle.handle_calls.specs.Reports.{ReadsSchema}
use Rattle.odfilter_c.proofs.null_buffer_calls.read_schema_to_null_at_null.Goals as goal

pub returns : goal.returns
returns c =
    let new = c.read_schema_at_null.new.names in
    let schema = c.read_schema_at_null.new.schema in
    let answer = c.read_schema_at_null.new.answer in
    let status = c.read_schema_at_null.result in
    let said =
    subst (λ (old : List ℕ). UnlessLong c.args.document_length ((new ≡ old) × ((schema ≡ c.args.schema.now) × ((answer ≡ c.args.answer.now) × (status ≡ 1)))) (ReadsSchema [] old new schema answer status))
    c.as_mut_slice.ensures.value c.read_schema_at_null.ensures in
    ((λ _. (new, said)), (λ long. let short = c.if-length-gt0.false in absurd (omega (arith, long, short))))
