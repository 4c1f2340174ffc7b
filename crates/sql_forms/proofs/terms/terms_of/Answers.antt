use Rattle.sql_forms.proofs.Common.{◌+◌, ◌∷◌, ◌∙◌, [], List, ℕ, ap, reverse, subst, sym, reverse-append, IsChain, question_of}
use Rattle.sql_outcomes.proofs.outcomes.ChainWalk.{WalkLeft, second_there, walk_done, walk_on, walk_starts}
use Rattle.sql_forms.proofs.terms.terms_of.Goals as goal

pub loop-connective-init : goal.loop-connective-init
loop-connective-init c = record {
  left =
      subst (λ (terms : List ℕ). WalkLeft (question_of c.args.context.now) c.args.connective c.args.place c.args.place (reverse terms)) (sym c.new-terms.ensures.items)
      (walk_starts (question_of c.args.context.now) c.requires.translated.right c.trees_have_one_type.ensures c.typed_trees_end_once_on_entities.ensures c.requires.translated.moment c.args.connective c.args.place
      c.requires.there c.requires.top);
}

pub second-requires : goal.second-requires
second-requires c =
    second_there (question_of c.args.context.now) c.requires.translated.right c.trees_have_one_type.ensures c.typed_trees_end_once_on_entities.ensures c.requires.translated.moment c.args.connective c.loop-connective.at
    c.loop-connective.invariant.left.inside (c.is_connective.ensures.is c.loop-connective-test.true)

pub loop-connective-preserved : goal.loop-connective-preserved
loop-connective-preserved c =
    let l = c.loop-connective in
    let next =
    walk_on (question_of c.args.context.now) c.requires.translated.right c.trees_have_one_type.ensures c.typed_trees_end_once_on_entities.ensures c.requires.translated.moment c.args.connective c.args.place l.at
    c.second.result (reverse l.terms.items) l.invariant.left (c.is_connective.ensures.is c.loop-connective-test.true) c.second.ensures in
    record {
      left =
          subst (λ (terms : List ℕ). WalkLeft (question_of c.args.context.now) c.args.connective c.args.place (l.at + 1) terms)
          (sym (ap reverse c.in_ok-push.ensures.items ∙ reverse-append l.terms.items (c.second.result ∷ []))) next;
    }

pub returns : goal.returns
returns c =
    let l = c.loop-connective in
    let done =
    walk_done (question_of c.args.context.now) c.requires.translated.right c.args.connective c.args.place l.at (reverse l.terms.items) c.requires.top (c.is_connective.ensures.other (λ is. cc)) l.invariant.left in
    subst (IsChain (question_of c.args.context.now) c.args.connective c.args.place) (sym (c.reverse.ensures.items ∙ ap reverse c.in_ok-push-2.ensures.items ∙ reverse-append l.terms.items (l.at ∷ []))) done
