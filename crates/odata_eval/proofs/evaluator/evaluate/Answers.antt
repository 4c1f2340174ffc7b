use Rattle.std.proofs.Common.{[], Ok, Some, refl}
use Rattle.filter_context.specs.private.ContextModel.{context_in}
use Rattle.odata_eval.proofs.walking.TopNode.{top_outcome}
use Rattle.odata_eval.proofs.evaluator.evaluate.Goals as goal

pub returns-in-Decide-clause-outcome : goal.returns-in-Decide-clause-outcome
returns-in-Decide-clause-outcome c =
    rw c.verdict_of.ensures (top_outcome c.args.checked.now c.args.entity.now c.args.now.now (context_in c.args.entity.now c.args.now.now c.args.checked.now.list []) c.nodes-nodes.ensures.right c.requires.one_schema c.requires.one_type
    refl refl refl refl c.plain_terms_on.ensures.ends_once (Ok (Some c.in-Decide.truth)) c.in-Decide.ensures.reported)
