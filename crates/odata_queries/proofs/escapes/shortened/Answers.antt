use Rattle.std.proofs.lemmas.List.{take_rest}
use Rattle.odata_queries.proofs.Common.{◌≡◌, ℕ, ◌+◌, ◌-◌, ◌<◌, ◌≤◌, true, false, List, ◌++◌, length, drop, append-nil, arith, sym, ◌∙◌, ap}
use Rattle.odata_queries.specs.Disguise.{is_long_escape, shortened}
use Rattle.odata_queries.proofs.readers.Shortens.{kept-byte, none-left, passed-byte}
use Rattle.odata_queries.proofs.escapes.shortened.Goals.{then-skipped-eq0+in_ok-push+then-is_long_escape, then-skipped-eq0+in_ok-push+else-is_long_escape, else-skipped-eq0}
use Rattle.odata_queries.proofs.escapes.shortened.Goals as goal

pub loop-place-preserved : goal.loop-place-preserved
loop-place-preserved c =
    let text : List ℕ = c.args.text.now in
    let place : ℕ = c.loop-place.place in
    let within : place < length text = omega (arith, c.loop-place-test.true) in
    let step : c.if-skipped-eq0.bytes.items ++ shortened c.if-skipped-eq0.skipped (drop (place + 1) text) ≡ c.loop-place.bytes.items ++ shortened c.loop-place.skipped (drop place text) = elim c.if-skipped-eq0.branch [
      | then-skipped-eq0+in_ok-push+then-is_long_escape w ↦ kept-byte text c.loop-place.bytes.items c.if-skipped-eq0.bytes.items place c.loop-place.skipped c.if-skipped-eq0.skipped true within w.if-skipped-eq0.true (ap (λ b. b.items) w.bytes-is ∙ w.in_ok-push.ensures.items) (ap is_long_escape (sym (take_rest text place)) ∙ sym w.is_long_escape.ensures ∙ w.if-is_long_escape.true) w.skipped-is
      | then-skipped-eq0+in_ok-push+else-is_long_escape w ↦ kept-byte text c.loop-place.bytes.items c.if-skipped-eq0.bytes.items place c.loop-place.skipped c.if-skipped-eq0.skipped false within w.if-skipped-eq0.true (ap (λ b. b.items) w.bytes-is ∙ w.in_ok-push.ensures.items) (ap is_long_escape (sym (take_rest text place)) ∙ sym w.is_long_escape.ensures ∙ w.if-is_long_escape.false) w.skipped-is
      | else-skipped-eq0 w ↦ passed-byte text c.loop-place.bytes.items c.if-skipped-eq0.bytes.items place c.loop-place.skipped c.if-skipped-eq0.skipped within w.if-skipped-eq0.false (ap (λ b. b.items) w.bytes-is) w.skipped-is
    ] in
    step ∙ c.loop-place.invariant

pub returns : goal.returns
returns c =
    let past = c.loop-place-test.false in
    sym (append-nil c.loop-place.bytes.items) ∙ ap (λ (l : List ℕ). c.loop-place.bytes.items ++ l) (sym (none-left c.args.text.now c.loop-place.place c.loop-place.skipped (omega (arith, past)))) ∙ c.loop-place.invariant
