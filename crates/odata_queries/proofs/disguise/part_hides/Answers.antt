use Rattle.std.proofs.Common.{tests}
use Rattle.std.specs.List.{list_any}
use Rattle.std.proofs.lemmas.Iterator.Consumers.{YieldsList-end, YieldsList-turn}
use Rattle.std.proofs.lemmas.Iterator.Splits.{YieldsList-from_slice_split}
use Rattle.std.proofs.lemmas.List.Folds.{list_any-append, list_any_at}
use Rattle.odata_queries.proofs.Common.{rules, ◌≡◌, ◌∙◌, ◌==◌, ◌||◌, ◌&&◌, ◌∷◌, [], Bool, true, false, length, map, map_push, ap, refl, sym, subst}
use Rattle.odata_queries.specs.Disguise.{hides_filter, part_hides}
use Rattle.odata_queries.proofs.disguise.part_hides.Goals as goal

neither : (a b : Bool) → a ≡ false → b ≡ false → (a || (b || false)) ≡ false
neither a b is_a is_b = rw (is_a, is_b) refl

pub loop-part-preserved : goal.loop-part-preserved
loop-part-preserved c = rw (map_push (λ part. part.now) c.loop-part.yielded c.in-Some.part)
    (list_any-append hides_filter (map (λ part. part.now) c.loop-part.yielded) (c.in-Some.part.now ∷ [])
    ∙ neither _ _ c.loop-part.invariant (sym (c.in_ok-hides_filter.ensures) ∙ c.if-branch.false))

pub returns-then-branch : goal.returns-then-branch
unfolding part_hides
returns-then-branch c =
    let turn = YieldsList-turn (YieldsList-from_slice_split _ (λ b. (c.args.semicolons && b == 59) || (c.args.urls && b == 63)) c.args.text.now (cc) (cc) refl (λ x r q k. search (rules, tests))) c.loop-part.yielded c.loop-part.part-iterator c.loop-part.yielded_by _ _ c.in-Some.part c.in-Some.is c.next.ensures.steps in
    sym (list_any_at hides_filter _ (length c.loop-part.yielded) c.in-Some.part.now turn.0 (ap hides_filter (sym turn.1) ∙ sym (c.in_ok-hides_filter.ensures) ∙ c.if-branch.true))

pub returns : goal.returns
unfolding part_hides
returns c =
    let end = YieldsList-end (YieldsList-from_slice_split _ (λ b. (c.args.semicolons && b == 59) || (c.args.urls && b == 63)) c.args.text.now (cc) (cc) refl (λ x r q k. search (rules, tests))) c.loop-part.yielded c.loop-part.part-iterator c.loop-part.yielded_by _ _ c.in-None.is c.next.ensures.steps in
    sym (subst (λ parts. list_any hides_filter parts ≡ false) end.0 c.loop-part.invariant)
