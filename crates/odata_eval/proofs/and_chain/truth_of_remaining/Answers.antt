use Rattle.std.proofs.Common.{ap, ◌∙◌, ◌≡◌, ◌<◌, ◌≤◌, ◌-◌, Bool, false, true, Option, None, Some, Ok, Err, arith, subst}
use Rattle.std.proofs.lemmas.Result.{err_from_is_err_and}
use Rattle.odata_syntax.specs.declared.binary_operator.LogicalOperator.{LogicalOperator}
use Rattle.odata_filter_operations.specs.TruthGives.{truth_val}
use Rattle.odata_eval.specs.private.WalkAnswer.{AnswersTruth}
use Rattle.odata_meaning.specs.private.Decided.{IsDecided}
use Rattle.odata_eval.proofs.walking.AndChains.{decided_up, false_answers, fault_answers, fault_up, null_answers, term_stands, term_there, reported_not, true_answers}
use Rattle.filter_context.proofs.Spines.{at_top}
use Rattle.odata_eval.proofs.and_chain.truth_of_remaining.Goals as goal

pub returns-in_err-left : goal.returns-in_err-left
returns-in_err-left c =
    let exit = err_from_is_err_and c.from_residual.result c.from_residual.ensures.1 in
    rw (exit.1 ∙ ap Err exit.2) (fault_up c.args.context.now c.args.remaining.ands c.requires.remaining.ands c.args.remaining.ands (omega arith) c.in_err-left.field-0.0 (c.requires.remaining.goes_up (Err c.in_err-left.field-0.0) c.in_err-left.ensures))

pub returns-then-decides : goal.returns-then-decides
returns-then-decides c =
    decided_up c.args.context.now c.args.remaining.ands c.requires.remaining.ands c.in_ok-left.left (c.decides.ensures.0 c.if-decides.true) c.args.remaining.ands (omega arith) (c.requires.remaining.goes_up (Ok c.in_ok-left.left) c.in_ok-left.ensures)

pub loop-at-init : goal.loop-at-init
loop-at-init c = record {
  within = omega arith;
  undecided = reported_not c.decides.result (IsDecided LogicalOperator.And (truth_val c.in_ok-left.left)) c.decides.ensures c.if-decides.false;
  answers = c.requires.remaining.goes_up (Ok c.in_ok-left.left) c.in_ok-left.ensures;
}

pub right_of-right_place-requires : goal.right_of-right_place-requires
right_of-right_place-requires c =
    let l = c.loop-at in
    let above : 0 < l.at = omega arith in
    term_there c.args.context.now c.args.remaining.ands c.requires.remaining.ands c.requires.stands l.at above l.invariant.within

pub kept_truth_at-requires : goal.kept_truth_at-requires
kept_truth_at-requires c =
    let l = c.loop-at in
    let above : 0 < l.at = omega arith in
    record {
      stands = term_stands c.args.context.now c.args.remaining.ands c.requires.remaining.ands c.requires.stands l.at above l.invariant.within c.right_of-right_place.result c.right_of-right_place.ensures;
    }

pub term_at-requires-in-None : goal.term_at-requires-in-None
term_at-requires-in-None c =
    let l = c.loop-at in
    let above : 0 < l.at = omega arith in
    record {
      stands = term_stands c.args.context.now c.args.remaining.ands c.requires.remaining.ands c.requires.stands l.at above l.invariant.within c.right_of-right_place.result c.right_of-right_place.ensures;
    }

pub loop-at-preserved-in-Some-true : goal.loop-at-preserved-in-Some-true
loop-at-preserved-in-Some-true c =
    let l = c.loop-at in
    let above : 0 < l.at = omega arith in
    let is : c.in-Some-true.field-0 ≡ true = cc in
    let term : AnswersTruth c.args.context.now c.right_of-right_place.result (Ok (Some true)) =
    subst (λ (b : Bool). AnswersTruth c.args.context.now c.right_of-right_place.result (Ok (Some b))) is c.in-Some-true.ensures in
    let within : l.at ≤ c.args.remaining.ands = l.invariant.within in
    record {
      within = omega arith;
      undecided = l.invariant.undecided;
      answers = true_answers c.args.context.now c.args.remaining.ands c.requires.remaining.ands c.requires.stands l.at above l.invariant.within c.right_of-right_place.result c.right_of-right_place.ensures l.left l.invariant.undecided l.invariant.answers term;
    }

pub returns-in-Some-false : goal.returns-in-Some-false
returns-in-Some-false c =
    let l = c.loop-at in
    let above : 0 < l.at = omega arith in
    let is : c.in-Some-false.field-0 ≡ false = cc in
    let term : AnswersTruth c.args.context.now c.right_of-right_place.result (Ok (Some false)) =
    subst (λ (b : Bool). AnswersTruth c.args.context.now c.right_of-right_place.result (Ok (Some b))) is c.in-Some-false.ensures in
    false_answers c.args.context.now c.args.remaining.ands c.requires.remaining.ands c.requires.stands l.at above l.invariant.within c.right_of-right_place.result c.right_of-right_place.ensures l.left l.invariant.undecided l.invariant.answers term

pub loop-at-preserved-in-Some-true-right : goal.loop-at-preserved-in-Some-true-right
loop-at-preserved-in-Some-true-right c =
    let l = c.loop-at in
    let above : 0 < l.at = omega arith in
    let is : c.in_ok-right-in-None.right ≡ Some true = cc in
    let term : AnswersTruth c.args.context.now c.right_of-right_place.result (Ok (Some true)) =
    subst (λ (r : Option Bool). AnswersTruth c.args.context.now c.right_of-right_place.result (Ok r)) is c.in_ok-right-in-None.ensures in
    let within : l.at ≤ c.args.remaining.ands = l.invariant.within in
    record {
      within = omega arith;
      undecided = l.invariant.undecided;
      answers = true_answers c.args.context.now c.args.remaining.ands c.requires.remaining.ands c.requires.stands l.at above l.invariant.within c.right_of-right_place.result c.right_of-right_place.ensures l.left l.invariant.undecided l.invariant.answers term;
    }

pub returns-in-Some-false-right : goal.returns-in-Some-false-right
returns-in-Some-false-right c =
    let l = c.loop-at in
    let above : 0 < l.at = omega arith in
    let is : c.in_ok-right-in-None.right ≡ Some false = cc in
    let term : AnswersTruth c.args.context.now c.right_of-right_place.result (Ok (Some false)) =
    subst (λ (r : Option Bool). AnswersTruth c.args.context.now c.right_of-right_place.result (Ok r)) is c.in_ok-right-in-None.ensures in
    false_answers c.args.context.now c.args.remaining.ands c.requires.remaining.ands c.requires.stands l.at above l.invariant.within c.right_of-right_place.result c.right_of-right_place.ensures l.left l.invariant.undecided l.invariant.answers term

pub loop-at-preserved : goal.loop-at-preserved
loop-at-preserved c =
    let l = c.loop-at in
    let above : 0 < l.at = omega arith in
    let is : c.in_ok-right-in-None.right ≡ None = cc in
    let term : AnswersTruth c.args.context.now c.right_of-right_place.result (Ok (None)) =
    subst (λ (r : Option Bool). AnswersTruth c.args.context.now c.right_of-right_place.result (Ok r)) is c.in_ok-right-in-None.ensures in
    let within : l.at ≤ c.args.remaining.ands = l.invariant.within in
    record {
      within = omega arith;
      undecided = λ none. none;
      answers = null_answers c.args.context.now c.args.remaining.ands c.requires.remaining.ands c.requires.stands l.at above l.invariant.within c.right_of-right_place.result c.right_of-right_place.ensures l.left l.invariant.undecided l.invariant.answers term;
    }

pub returns-in_err-right-in-None : goal.returns-in_err-right-in-None
returns-in_err-right-in-None c =
    let l = c.loop-at in
    let above : 0 < l.at = omega arith in
    let exit = err_from_is_err_and c.from_residual-in_err-right-in-None.result c.from_residual-in_err-right-in-None.ensures.1 in
    rw (exit.1 ∙ ap Err exit.2) (fault_answers c.args.context.now c.args.remaining.ands c.requires.remaining.ands c.requires.stands l.at above l.invariant.within c.right_of-right_place.result c.right_of-right_place.ensures l.left l.invariant.undecided l.invariant.answers c.in_err-right-in-None.field-0.0 c.in_err-right-in-None.ensures)

pub returns : goal.returns
returns c = at_top (λ k. AnswersTruth c.args.context.now k (Ok c.loop-at.left)) c.loop-at.at 0 (omega arith) (omega arith) c.loop-at.invariant.answers
