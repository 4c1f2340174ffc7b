use Rattle.std.proofs.Common.{subst}
use Rattle.csdl_schema.specs.SchemaModel.{slots_of}
use Rattle.filter_context.specs.Frames.{StandsAtLevel}
use Rattle.filter_context.specs.private.ContextModel.{ContextModel, environment_of}
use Rattle.odata_eval.proofs.eval_context.EvalContext.variable_among.Goals as goal

pub returns : goal.returns
returns c =
    subst (λ (s : ContextModel). StandsAtLevel (slots_of s.row.schema) (environment_of s) c.args.level c.in-There.value.now) c.self.view_is
    (c.in-There.ensures c.self.inside.entity.now.schema)
