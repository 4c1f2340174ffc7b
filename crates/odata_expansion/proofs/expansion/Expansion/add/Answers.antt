use Rattle.std.proofs.Common.{List, ℕ, Bor, map, take, sym, ◌∙◌, subst, take_all}
use Rattle.std.proofs.lemmas.List.{map_more}
use Rattle.odata_expansion.specs.PathSet.{PropertyPath}
use Rattle.odata_expansion.specs.ExpansionView.{LeadsTo}
use Rattle.odata_expansion.proofs.Marks.{with_same}
use Rattle.odata_expansion.proofs.expansion.Expansion.add.Goals as goal

pub step_on-requires : goal.step_on-requires
step_on-requires c =
    let now : Bor (List ℕ) → List ℕ = λ (name : Bor (List ℕ)). name.now in
    (map now (take c.loop-name.name-index c.args.path.now), c.loop-name.invariant.leads)

pub mark-requires : goal.mark-requires
mark-requires c =
    let now : Bor (List ℕ) → List ℕ = λ (name : Bor (List ℕ)). name.now in
    (map now (take c.loop-name.name-index c.args.path.now), c.loop-name.invariant.leads)

pub loop-name-preserved : goal.loop-name-preserved
loop-name-preserved c =
    let now : Bor (List ℕ) → List ℕ = λ (name : Bor (List ℕ)). name.now in
    let new = c.step_on.new.self in
    let so_far : PropertyPath = map now (take c.loop-name.name-index c.args.path.now) in
    let leads = c.in_ok-node.ensures.leads so_far c.loop-name.invariant.leads in
    record {
      same = λ asked. c.in_ok-node.ensures.kept.same asked ∙ c.loop-name.invariant.same asked;
      leads = subst (λ (path : PropertyPath). LeadsTo new path c.in_ok-node.node) (sym (map_more now c.args.path.now c.loop-name.name-index _ c.loop-name-test.true)) leads;
    }

pub returns-clause-added : goal.returns-clause-added
returns-clause-added c = λ asked.
    let now : Bor (List ℕ) → List ℕ = λ (name : Bor (List ℕ)). name.now in
    let self = c.loop-name.self in
    let whole : PropertyPath = map now c.args.path.now in
    let leads : LeadsTo self whole c.loop-name.node = subst (λ (names : List (Bor (List ℕ))). LeadsTo self (map now names) c.loop-name.node) (take_all c.loop-name.name-index c.args.path.now c.loop-name-test.false) c.loop-name.invariant.leads in
    c.mark.ensures.added whole asked leads
    ∙ with_same c.args.self.now self c.loop-name.invariant.same whole asked
