use Rattle.std.proofs.Common.{◌≡◌, map, take}
use Rattle.odata_expansion.specs.private.StepView.{step_model}
use Rattle.odata_expansion.proofs.steps.copy_steps.Given as goal

-- the copies so far are those of the steps so far
abbrev pub invariant-loop-step : goal.invariant-loop-step
invariant-loop-step l = map step_model l.copies.items ≡ map step_model (take l.step-index l.steps)
