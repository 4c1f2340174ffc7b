use Rattle.std.proofs.Common.{◌≡◌, ℕ, List, [], arith, subst}
use Rattle.odfilter_c.specs.Loans.{UnlessLong}
use Rattle.handle_calls.specs.UrlCalls.{ChecksUrl}
use Rattle.odfilter_c.proofs.null_buffer_calls.check_url_to_null_at_null.Goals as goal

pub returns : goal.returns
returns c =
    let new = c.check_url_at_null.new.text in
    let made = c.check_url_at_null.new.made in
    let answer = c.check_url_at_null.new.answer in
    let status = c.check_url_at_null.result in
    let said =
    subst (λ (old : List ℕ). UnlessLong c.args.query_length ((new ≡ old) × ((made ≡ c.args.made.now) × ((answer ≡ c.args.answer.now) × (status ≡ 1)))) (ChecksUrl c.args.given.now [] old new made answer status))
    c.as_mut_slice.ensures.value c.check_url_at_null.ensures in
    ((λ _. (new, said)), (λ long. let short = c.if-length-gt0.false in absurd (omega (arith, long, short))))
