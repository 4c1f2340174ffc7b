use Rattle.std.proofs.Common.{◌≡◌, ◌<◌, ◌≤◌, Bool, false, true, Some, Ok, arith, subst}
use Rattle.odata_eval.specs.private.WalkAnswer.{AnswersTruth}
use Rattle.odata_eval.proofs.walking.AndChains.{decided_up, term_stands, term_there, true_goes_up}
use Rattle.odata_eval.proofs.and_chain.ask_plain_terms.Goals as goal

pub loop-truth-init : goal.loop-truth-init
loop-truth-init c = record {
  stands = c.ands_end-ands.ensures.stands;
  ands = c.ands_end-ands.ensures.ands;
  goes_up = λ answer answers. answers;
}

pub plain_term_at-requires : goal.plain_term_at-requires
plain_term_at-requires c = record { stands = c.loop-truth.invariant.stands }

pub returns-in_default : goal.returns-in_default
returns-in_default c = record {
  stands = c.loop-truth.invariant.stands;
  ands = c.loop-truth.invariant.ands;
  goes_up = c.loop-truth.invariant.goes_up;
}

pub returns-then-not-truth : goal.returns-then-not-truth
returns-then-not-truth c =
    let l = c.loop-truth in
    let term : AnswersTruth c.args.context.now l.term (Ok (Some false)) =
    subst (λ (b : Bool). AnswersTruth c.args.context.now l.term (Ok (Some b))) c.if-not-truth.true c.in-Some.ensures in
    decided_up c.args.context.now l.at l.invariant.ands (Some false) tt l.at (omega arith) (l.invariant.goes_up (Ok (Some false)) term)

pub returns-then-at-eq0 : goal.returns-then-at-eq0
returns-then-at-eq0 c =
    let l = c.loop-truth in
    let term : AnswersTruth c.args.context.now l.term (Ok (Some true)) =
    subst (λ (b : Bool). AnswersTruth c.args.context.now l.term (Ok (Some b))) c.if-not-truth.false c.in-Some.ensures in
    let at : l.at ≡ 0 = omega (arith, c.if-at-eq0.true) in
    subst (λ k. AnswersTruth c.args.context.now k (Ok (Some true))) at (l.invariant.goes_up (Ok (Some true)) term)

pub right_of-term-requires : goal.right_of-term-requires
right_of-term-requires c =
    let l = c.loop-truth in
    let above : 0 < l.at = omega (arith, c.if-at-eq0.false) in
    let within : l.at ≤ l.at = omega arith in
    term_there c.args.context.now l.at l.invariant.ands c.requires.stands l.at above within

pub loop-truth-preserved : goal.loop-truth-preserved
loop-truth-preserved c =
    let l = c.loop-truth in
    let above : 0 < l.at = omega (arith, c.if-at-eq0.false) in
    let within : l.at ≤ l.at = omega arith in
    let term : AnswersTruth c.args.context.now l.term (Ok (Some true)) =
    subst (λ (b : Bool). AnswersTruth c.args.context.now l.term (Ok (Some b))) c.if-not-truth.false c.in-Some.ensures in
    record {
      stands = term_stands c.args.context.now l.at l.invariant.ands c.requires.stands l.at above within c.right_of-term.result c.right_of-term.ensures;
      ands = λ k before. l.invariant.ands k (omega arith);
      goes_up = true_goes_up c.args.context.now l.at l.invariant.ands c.requires.stands l.at above within c.right_of-term.result c.right_of-term.ensures (l.invariant.goes_up (Ok (Some true)) term);
    }
