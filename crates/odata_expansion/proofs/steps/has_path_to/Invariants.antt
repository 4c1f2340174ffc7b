use Rattle.std.proofs.Common.{◌≡◌, ◌<◌, ℕ, suc, map, true}
use Rattle.odata_expansion.specs.ExpansionView.{is_needed_at}
use Rattle.odata_expansion.specs.PathSet.{PropertyPath}
use Rattle.odata_expansion.specs.private.StepView.{LeadsBack, step_model}
use Rattle.odata_expansion.proofs.steps.has_path_to.Given as goal

-- none of the needed nodes so far has the path
abbrev pub invariant-loop-index : goal.invariant-loop-index
invariant-loop-index l =
    (names : PropertyPath) → LeadsBack (map step_model l.other) names l.node
    → (k : ℕ) → k < l.index → is_needed_at (map step_model l.own) (suc k) ≡ true → LeadsBack (map step_model l.own) names (suc k) → ⊥
