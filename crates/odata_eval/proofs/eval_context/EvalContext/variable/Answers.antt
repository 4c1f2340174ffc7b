use Rattle.std.proofs.Common.{◌≡◌, ◌∙◌, ◌<◌, List, [], ◌∷◌, ap, length, subst, sym}
use Rattle.csdl_schema.specs.SchemaModel.{slots_of}
use Rattle.filter_context.specs.declared.frames.Frames.{Frames}
use Rattle.filter_context.specs.Frames.{Frame, StandsAtLevel, frame_of, frames_in, names_of}
use Rattle.filter_context.specs.private.ContextModel.{ContextModel, environment_of}
use Rattle.filter_context.proofs.Variables.{bound_frames, frames_in-Empty, only_variable}
use Rattle.odata_eval.proofs.eval_context.EvalContext.variable.Goals as goal

pub returns-in-Empty : goal.returns-in-Empty
returns-in-Empty c =
    let schema = c.self.inside.entity.now.schema in
    let frame : Frame = frame_of c.in-Bound.field-0.now c.in-Bound.value.now in
    let is : frames_in c.self.inside.frames ≡ frame ∷ [] =
    bound_frames c.self.inside.frames c.in-Bound.field-0 c.in-Bound.value c.in-Bound.outer c.in-Bound.is
    ∙ ap (λ (outer : Frames). frame ∷ frames_in outer) c.in-Empty.is ∙ ap (λ (frames : List Frame). frame ∷ frames) frames_in-Empty in
    subst (λ (s : ContextModel). StandsAtLevel (slots_of s.row.schema) (environment_of s) c.args.level c.in-Bound.value.now) c.self.view_is
    (only_variable schema (frames_in c.self.inside.frames) frame c.args.level is
    (subst (λ (s : ContextModel). c.args.level < length (names_of (environment_of s))) (sym c.self.view_is) c.requires))
