use Rattle.sql_forms.proofs.Common.{◌≡◌, ◌≢◌, ◌∙◌, List, None, Vec, ap, arith, is_some, length, refl, subst, sym, take, ℕ, take-length, slice_get_read, Global, Operand, Kind, carrier_in}
use Rattle.sql_outcomes.proofs.outcomes.Elements.{at_all}
use Rattle.sql_outcomes.proofs.outcomes.LiftWalk.{Taken, bound_on, carried_valued, kept_on, not_both, not_some}
use Rattle.sql_forms.proofs.lift.bind_operands.Goals as goal
use Rattle.sql_forms.proofs.lift.bind_operands.Goals.{then-is_some, else-is_some+then-all, else-is_some+else-all, then-not-is_leaf+in_ok-push+in_ok-push-2, else-not-is_leaf+in_ok-push-3}

pub loop-operand-preserved : goal.loop-operand-preserved
loop-operand-preserved c =
    let at = slice_get_read c.args.operands.now (length c.args.operands.now) c.loop-operand.operand-index c.operand-item.result refl c.loop-operand-test.true c.operand-item.is in
    elim c.if-not-is_leaf.branch [
      | then-not-is_leaf+in_ok-push+in_ok-push-2 w ↦ (
          let other : c.operand-item.result.kind ≢ Kind.Structured =
          elim c.if-is_some.branch [
            | then-is_some v ↦ carried_valued c.operand-item.result (v.if-is_some.ensures ∙ ap is_some c.carrier.ensures)
            | else-is_some+then-all v ↦
                at_all (λ (operand : Operand). operand.kind ≢ Kind.Structured) c.args.operands.now c.loop-operand.operand-index c.operand-item.result (c.requires.valued v.if-all.true) at
            | else-is_some+else-all v ↦ absurd (not_both c.if-is_some.value w.if-not-is_leaf.true (v.value-is ∙ v.if-all.false))
          ] in
          record {
            taken = bound_on c.in_ok-level.level c.args.operands.now c.loop-operand.operand-index c.operand-item.result at c.loop-operand.inner.items c.loop-operand.bound.items c.if-not-is_leaf.inner.items c.if-not-is_leaf.bound.items c.loop-operand.invariant.taken other w.len.result w.bound.result (omega (arith, w.len.ensures, c.loop-operand.bound.ok.0)) w.bound.ensures.source w.bound.ensures.kind w.bound.ensures.range (ap (λ (v : Vec Operand Global). v.items) w.inner-is ∙ w.in_ok-push.ensures.items) (ap (λ (v : Vec Operand Global). v.items) w.bound-is ∙ w.in_ok-push-2.ensures.items);
          })
      | else-not-is_leaf+in_ok-push-3 w ↦ (
          elim c.if-is_some.branch [
            | then-is_some v ↦ absurd (not_both c.if-is_some.value (v.value-is ∙ v.if-is_some.true) w.if-not-is_leaf.false)
            | else-is_some+then-all v ↦ (
                let none : carrier_in c.operand-item.result ≡ None = sym c.carrier.ensures ∙ not_some c.carrier.result v.if-is_some.ensures in
                record {
                  taken =
                      kept_on c.in_ok-level.level c.args.operands.now c.loop-operand.operand-index c.operand-item.result at c.loop-operand.inner.items c.loop-operand.bound.items c.if-not-is_leaf.inner.items c.if-not-is_leaf.bound.items c.loop-operand.invariant.taken none (ap (λ (v : Vec Operand Global). v.items) w.inner-is ∙ w.in_ok-push-3.ensures.items)
                      (ap (λ (v : Vec Operand Global). v.items) w.bound-is);
                })
            | else-is_some+else-all v ↦ (
                let none : carrier_in c.operand-item.result ≡ None = sym c.carrier.ensures ∙ not_some c.carrier.result v.if-is_some.ensures in
                record {
                  taken =
                      kept_on c.in_ok-level.level c.args.operands.now c.loop-operand.operand-index c.operand-item.result at c.loop-operand.inner.items c.loop-operand.bound.items c.if-not-is_leaf.inner.items c.if-not-is_leaf.bound.items c.loop-operand.invariant.taken none (ap (λ (v : Vec Operand Global). v.items) w.inner-is ∙ w.in_ok-push-3.ensures.items)
                      (ap (λ (v : Vec Operand Global). v.items) w.bound-is);
                })
          ])
    ]

pub returns : goal.returns
returns c =
    let operands = c.args.operands.now in
    let past = c.loop-operand-test.false in
    let whole : c.loop-operand.operand-index ≡ length operands = omega (arith, past) in
    let taken =
    subst (λ (xs : List Operand). Taken c.in_ok-level.level xs c.loop-operand.inner.items c.loop-operand.bound.items) (ap (λ (k : ℕ). take k operands) whole ∙ take-length operands) c.loop-operand.invariant.taken in
    let lifted = subst (λ (l : ℕ). Taken l operands c.loop-operand.inner.items c.loop-operand.bound.items) c.in_ok-level.ensures.ok.0 taken in
    record {
      choices = lifted.choices;
      are = lifted.are;
      valued = lifted.valued;
      inner = lifted.inner_is;
      bound = lifted.bound_is;
      level_is = c.in_ok-level.ensures.ok.0;
      few = c.in_ok-level.ensures.ok.1;
    }
