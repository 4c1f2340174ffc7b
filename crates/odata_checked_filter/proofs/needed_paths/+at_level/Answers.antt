use Rattle.std.proofs.Common.{◌≡◌, ◌∙◌, ℕ, suc, ◌+◌, ◌≤◌, List, arith, inl, inr, length, subst, sym}
use Rattle.std.proofs.lemmas.Bool.{cases_lt}
use Rattle.odata_checked_filter.specs.declared.needed_paths.VariableNode.TheVariants.{There}
use Rattle.odata_checked_filter.specs.private.NeededPaths.{IsNodeAtLevel, nodes_in}
use Rattle.odata_checked_filter.proofs.needed.Levels.{bound_nodes, level_here, level_outer}
use Rattle.odata_checked_filter.proofs.needed_paths.+at_level.Goals as goal

-- so many variables, not more than a level and not as many
fewer : (count level : ℕ) → count ≤ level → ¬ (count ≡ level) → count + 1 ≤ level
fewer count level most other = elim (cases_lt count level) [
  | inl before ↦ omega arith
  | inr after ↦ absurd (other (let same : count ≡ level = omega arith in same))
]

pub overflow_add-result : goal.overflow_add-result
overflow_add-result t c =
    let most : c.in-Fewer.count + 1 ≤ c.args.level = fewer c.in-Fewer.count c.args.level c.in-Fewer.ensures.1 c.if-count-level.false in
    omega (arith, most, c.ranges.level.fits)

pub returns-then-count-level : goal.returns-then-count-level
returns-then-count-level t c =
    let outer = nodes_in c.in-Bound.outer.now in
    subst (λ (nodes : List ℕ). IsNodeAtLevel nodes c.args.level (There c.in-Bound.node)) (sym (bound_nodes c.args.variables.now c.in-Bound.node c.in-Bound.outer c.in-Bound.is))
    (level_here c.in-Bound.node outer c.args.level (sym c.in-Fewer.ensures.0 ∙ c.if-count-level.true))

pub returns-else-count-level : goal.returns-else-count-level
returns-else-count-level t c =
    let most : c.in-Fewer.count + 1 ≤ c.args.level = fewer c.in-Fewer.count c.args.level c.in-Fewer.ensures.1 c.if-count-level.false in
    let counted : c.in-Fewer.count ≡ length (nodes_in c.in-Bound.outer.now) = c.in-Fewer.ensures.0 in
    subst (λ (nodes : List ℕ). (c.in-Fewer.count + 1 ≡ length nodes) × (c.in-Fewer.count + 1 ≤ c.args.level))
    (sym (bound_nodes c.args.variables.now c.in-Bound.node c.in-Bound.outer c.in-Bound.is)) ((let e : c.in-Fewer.count + 1 ≡ suc (length (nodes_in c.in-Bound.outer.now)) = omega arith in e), most)

pub returns-in-There : goal.returns-in-There
returns-in-There t c =
    subst (λ (nodes : List ℕ). IsNodeAtLevel nodes c.args.level (There c.in-There.found)) (sym (bound_nodes c.args.variables.now c.in-Bound.node c.in-Bound.outer c.in-Bound.is))
    (level_outer c.in-Bound.node (nodes_in c.in-Bound.outer.now) c.args.level c.in-There.found c.in-There.ensures)
