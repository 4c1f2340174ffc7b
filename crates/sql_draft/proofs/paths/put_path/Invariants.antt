use Rattle.std.proofs.Common.{◌-◌, ◌≤◌}
use Rattle.sql_draft.specs.private.Paths.{StepsLead}
use Rattle.sql_draft.specs.Translated.{question_of}
use Rattle.sql_draft.proofs.paths.put_path.Given as goal

abbrev pub invariant-loop-at : goal.invariant-loop-at
invariant-loop-at l = record {
  above : l.place ≤ l.at;
  inside : l.at ≤ l.after;
  leads : StepsLead (question_of l.context) l.draft.members.items l.base l.steps.items l.lowest l.at;
}

abbrev pub decreases-loop-at : goal.decreases-loop-at
decreases-loop-at l = l.at - l.place
