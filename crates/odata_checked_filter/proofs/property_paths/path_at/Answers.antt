use Rattle.std.proofs.Common.{[], ◌≡◌, ◌-◌, ◌∙◌, ℕ, List, ap, arith, slice_get, subst, sym}
use Rattle.std.proofs.lemmas.List.Sums.{fold_push}
use Rattle.odata_syntax.specs.Tree.{Tree}
use Rattle.odata_signatures.specs.NeededPaths.{path_of}
use Rattle.odata_checked_filter.specs.PropertyPaths.{path_text, with_step}
use Rattle.odata_checked_filter.specs.private.LambdaLines.{StandsBetween}
use Rattle.odata_checked_filter.proofs.flat.Places.{before_is, found_before, same_found}
use Rattle.odata_checked_filter.proofs.named.Trees.{step_of}
use Rattle.odata_checked_filter.proofs.needed.StepRows.{stands_below, step_found}
use Rattle.odata_checked_filter.proofs.property_paths.path_at.Goals as goal

pub base_text-requires-clause-stands : goal.base_text-requires-clause-stands
base_text-requires-clause-stands c =
    let r = c.requires in
    let s = r.stands in
    let below = stands_below s.schema s.filtered s.scope c.args.context.now.list.now c.args.place c.path_base-bottom.result r.stop c.path_base-bottom.result r.tree s.stands
    c.path_base-bottom.ensures.steps c.path_base-bottom.ensures.below (omega arith) in
    record { stop = r.stop; tree = below.0; stands = record { schema = s.schema; filtered = s.filtered; scope = s.scope; stands = below.1 } }

pub loop-at-init : goal.loop-at-init
loop-at-init c = record { above = c.path_base-bottom.ensures.below; within = omega arith; written = c.in_ok-text.ensures }

-- the step before a node that has been reached
pub text-requires : goal.text-requires
text-requires c =
    let list = c.args.context.now.list.now in
    let b = before_is c.loop-at.at c.args.place c.path_base-bottom.result c.loop-at-test.true c.loop-at.invariant.within in
    let step = step_found list (c.loop-at.at - 1) (c.path_base-bottom.ensures.steps (c.loop-at.at - 1) b.1.0 b.1.1) in
    found_before list.nodes (c.loop-at.at - 1) step.found step.stands_at

pub loop-at-preserved : goal.loop-at-preserved
loop-at-preserved c =
    let list = c.args.context.now.list.now in
    let at = c.loop-at.at - 1 in
    let b = before_is c.loop-at.at c.args.place c.path_base-bottom.result c.loop-at-test.true c.loop-at.invariant.within in
    let within = b.1.0 in
    record {
      above = b.1.1;
      within = omega (arith, within);
      written = λ scope paths stop tree stands are.
          let step = step_found list at (c.path_base-bottom.ensures.steps at b.1.0 b.1.1) in
          let there = step_of list at stop step.slot tree step.found stands step.stands_at step.kind_is in
          let beside : c.text.result.now ≡ there.asked = same_found (slice_get list.texts at) c.text.result.now there.asked c.text.ensures there.text_at in
          let before = c.loop-at.invariant.written scope paths stop there.base (subst (λ (k : ℕ). StandsBetween list k stop there.base) b.0 there.base_stands) are in
          c.in_ok-put_step.ensures
          ∙ ap (λ (text : List ℕ). with_step text c.text.result.now) before
          ∙ ap (with_step (path_text (path_of scope paths there.base))) beside
          ∙ sym (fold_push with_step [] (path_of scope paths there.base) there.asked)
          ∙ ap (λ (t : Tree). path_text (path_of scope paths t)) (sym there.is);
    }

pub returns : goal.returns
returns c =
    let above : c.loop-at.at ≡ c.args.place = (let past = c.loop-at-test.false in let since = c.loop-at.invariant.above in omega (arith, past, since)) in
    λ scope paths stop tree stands are.
    c.loop-at.invariant.written scope paths stop tree (subst (λ (k : ℕ). StandsBetween c.args.context.now.list.now k stop tree) (sym above) stands) are
