use Rattle.std.proofs.Common.{◌+◌, map, refl, sym, arith}
use Rattle.std.proofs.lemmas.List.{length-map}
use Rattle.odata_expansion.specs.private.StepView.{step_model}
use Rattle.odata_expansion.proofs.Nodes.{found_path, missed_path}
use Rattle.odata_expansion.proofs.steps.has_path_to.Goals as goal

pub returns-then-is_same_path : goal.returns-then-is_same_path
returns-then-is_same_path c names back =
    found_path (map step_model c.args.own.now) c.requires.own names (c.loop-index.index + 1) (sym c.if-is_marked.ensures) ((c.if-is_same_path.ensures names back).0 refl)

pub returns : goal.returns
returns c names back =
    missed_path (map step_model c.args.own.now) names
    (λ k within needed. c.loop-index.invariant names back k (omega (arith, within, c.loop-index-test.false, length-map c.args.own.now step_model)) needed)
