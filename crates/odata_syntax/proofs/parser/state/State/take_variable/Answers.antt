use Rattle.std.proofs.Common.{◌≡◌, refl, sym, ◌∙◌, ap, ◌==◌, Bool, true, false, cond, Option, None}
use Rattle.std.specs.List.{list_any}
use Rattle.odata_syntax.specs.private.Machine.{Machine}
use Rattle.odata_syntax.proofs.parser.state.State.take_variable.Goals as goal

none_if : (b : Bool) (o : Option Machine) → b ≡ true → cond b None o ≡ None
none_if true o h = refl
none_if false o h = absurd (cc)

pub returns-then-contains-clause-step : goal.returns-then-contains-clause-step
returns-then-contains-clause-step c = λ texts same.
    let dotted : list_any (λ b. b == 46) c.args.piece.now.token.text.now ≡ true =
    sym (c.contains.ensures.value ∙ ap (list_any (λ b. b == 46)) c.as_bytes.ensures.value) ∙ c.if-contains.true in
    rw c.in-Word.is (none_if (list_any (λ b. b == 46) c.args.piece.now.token.text.now) _ dotted)
