use Rattle.std.proofs.Common.{◌≡◌, ◌++◌, ◌∷◌, [], ℕ, not, false, Option, IsSome, is_some, sym, ap, ◌∙◌}
use Rattle.std.proofs.lemmas.Bool.{false≢true}
use Rattle.odata_checked_filter.proofs.needed.Sets.{mark_puts, puts_as, step_puts}
use Rattle.odata_checked_filter.proofs.needed_paths.step_to.Goals as goal

none_not_some : (o : Option ℕ) → is_some o ≡ false → IsSome o → ⊥
none_not_some o none some = false≢true (sym none ∙ some)

pub mark-requires : goal.mark-requires
mark-requires c = (c.requires.0 ++ c.args.name.now ∷ [], c.in_ok-node.ensures.leads c.requires.0 c.requires.1)

pub returns-then-is_none-clause-puts : goal.returns-then-is_none-clause-puts
returns-then-is_none-clause-puts c path leads =
    puts_as c.args.expansion.now c.step_on.new.self (λ put. ⊥) (λ put. IsSome c.args.target × (put ≡ path ++ c.args.name.now ∷ []))
    (λ put none. absurd none) (λ put here. none_not_some c.args.target (c.is_none.ensures ∙ ap not c.if-is_none.true) here.0)
    (step_puts c.args.expansion.now c.step_on.new.self c.in_ok-node.ensures.kept)

pub returns-clause-leads : goal.returns-clause-leads
returns-clause-leads c path leads = c.mark.ensures.leads (path ++ c.args.name.now ∷ []) c.in_ok-node.node (c.in_ok-node.ensures.leads path leads)

pub returns-clause-puts : goal.returns-clause-puts
returns-clause-puts c path leads =
    let there : IsSome c.args.target = c.is_none.ensures ∙ ap not c.if-is_none.false in
    puts_as c.args.expansion.now c.mark.new.self (λ put. put ≡ path ++ c.args.name.now ∷ []) (λ put. IsSome c.args.target × (put ≡ path ++ c.args.name.now ∷ []))
    (λ put is. (there, is)) (λ put both. both.1)
    (mark_puts c.args.expansion.now c.step_on.new.self c.mark.new.self path c.args.name.now c.in_ok-node.ensures.kept
    (λ asked. c.mark.ensures.added (path ++ c.args.name.now ∷ []) asked (c.in_ok-node.ensures.leads path leads)) c.mark.ensures.leads)
