use Rattle.std.proofs.Common.{◌≡◌, ◌⊎◌, ◌-◌, suc, true, false, true≢false, map, sym, ◌∙◌, inl, inr, arith, eqb-true, eq-eqb}
use Rattle.std.specs.Cmp.Lexicographic.{bytes_decides}
use Rattle.odata_expansion.specs.private.StepView.{step_model}
use Rattle.odata_expansion.proofs.Nodes.{apart_back, both_back, ended_back, step_got}
use Rattle.odata_expansion.proofs.steps.is_same_path.Goals as goal
use Rattle.odata_expansion.proofs.steps.is_same_path.Goals.{then-loop-node-test+else-beside-gt0, else-loop-node-test}

pub returns-then-not-are_same_names : goal.returns-then-not-are_same_names
returns-then-not-are_same_names c names back =
    let k = c.loop-node.node - 1 in
    let j = c.loop-node.beside - 1 in
    let step = step_model c.index-own-node.result in
    let other_step = step_model c.index-other-beside.result in
    let is : c.loop-node.node ≡ suc k = omega arith in
    let other_is : c.loop-node.beside ≡ suc j = omega arith in
    let found = step_got c.args.own.now k c.index-own-node.result (let within = c.loop-node.invariant.within in omega (arith, within)) c.index-own-node.is in
    let other_found = step_got c.args.other.now j c.index-other-beside.result (let within = c.loop-node.invariant.beside_within in omega (arith, within)) c.index-other-beside.is in
    let apart = apart_back (map step_model c.args.own.now) (map step_model c.args.other.now) names c.args.own_node c.loop-node.node c.loop-node.beside k j step other_step
    (c.loop-node.invariant.same names back) is found other_is other_found
    (λ same. true≢false (sym ((bytes_decides step.name other_step.name).1 same) ∙ sym c.if-not-are_same_names.ensures)) in
    (λ none. absurd (true≢false (sym none)), λ there. absurd (apart there))

pub loop-node-smaller : goal.loop-node-smaller
loop-node-smaller c =
    let k = c.loop-node.node - 1 in
    let found = step_got c.args.own.now k c.index-own-node.result (let within = c.loop-node.invariant.within in omega (arith, within)) c.index-own-node.is in
    let below = c.requires.own.starts k (step_model c.index-own-node.result) found in
    omega (arith, below)

pub loop-node-preserved : goal.loop-node-preserved
loop-node-preserved c =
    let k = c.loop-node.node - 1 in
    let j = c.loop-node.beside - 1 in
    let step = step_model c.index-own-node.result in
    let other_step = step_model c.index-other-beside.result in
    let is : c.loop-node.node ≡ suc k = omega arith in
    let other_is : c.loop-node.beside ≡ suc j = omega arith in
    let inside = c.loop-node.invariant.within in
    let other_inside = c.loop-node.invariant.beside_within in
    let found = step_got c.args.own.now k c.index-own-node.result (omega (arith, inside)) c.index-own-node.is in
    let other_found = step_got c.args.other.now j c.index-other-beside.result (omega (arith, other_inside)) c.index-other-beside.is in
    let below = c.requires.own.starts k step found in
    let other_below = c.requires.other.starts j other_step other_found in
    let named = (bytes_decides step.name other_step.name).0 (sym c.if-not-are_same_names.ensures) in
    record {
      within = omega (arith, below, inside);
      beside_within = omega (arith, other_below, other_inside);
      same = λ names back.
          both_back (map step_model c.args.own.now) (map step_model c.args.other.now) names c.args.own_node c.loop-node.node c.loop-node.beside k j step other_step
          (c.loop-node.invariant.same names back) is found other_is other_found named;
    }

pub returns : goal.returns
returns c names back =
    let start : (c.loop-node.node ≡ 0) ⊎ (c.loop-node.beside ≡ 0) = elim c.loop-node-test.branch [
      | then-loop-node-test+else-beside-gt0 w ↦ inr (let none = w.if-beside-gt0.false in omega (arith, none))
      | else-loop-node-test w ↦ inl (let none = w.loop-node-test.false in omega (arith, none))
    ] in
    let ended = ended_back (map step_model c.args.own.now) (map step_model c.args.other.now) names c.args.own_node c.loop-node.node c.loop-node.beside (c.loop-node.invariant.same names back) start in
    (λ same. ended.0 (eqb-true c.loop-node.node c.loop-node.beside same), λ there. eq-eqb c.loop-node.node c.loop-node.beside (ended.1 there))
