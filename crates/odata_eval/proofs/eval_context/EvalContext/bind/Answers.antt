use Rattle.std.proofs.Common.{◌≡◌, ◌∙◌, List, ◌∷◌, ap, subst, sym}
use Rattle.csdl_schema.specs.SchemaModel.{slots_of}
use Rattle.edm_entities.specs.Row.{Row}
use Rattle.odata_meaning.specs.Environment.{IsFitting}
use Rattle.filter_context.specs.Frames.{Frame, environment_in, frame_of, frames_in}
use Rattle.odata_eval.specs.private.Lambda.{Suits}
use Rattle.filter_context.specs.private.ContextModel.{IsBeside, ContextModel, context_in}
use Rattle.filter_context.proofs.Variables.{frames_in-Bound}
use Rattle.odata_eval.proofs.eval_context.EvalContext.bind.Goals as goal

-- the same variables make one context of both
alike : (context other : ContextModel) (frames : List Frame) → IsBeside context other
    → context_in context.row context.moment context.list frames ≡ context_in other.row other.moment other.list frames
alike context other frames beside =
    ap (λ row. context_in row context.moment context.list frames) beside.row_is
    ∙ ap (λ moment. context_in other.row moment context.list frames) beside.moment_is
    ∙ ap (λ list. context_in other.row other.moment list frames) beside.list_is

pub invariant_of-self : goal.invariant_of-self
invariant_of-self c =
    let row : Row = c.self.inside.entity.now in
    let to_outer : row ≡ c.args.outer.now.row = ap (λ (s : ContextModel). s.row) c.self.view_is ∙ c.requires.beside.row_is in
    let same : row ≡ c.outer.inside.entity.now = to_outer ∙ sym (ap (λ (s : ContextModel). s.row) c.outer.view_is) in
    record {
      entity = c.self.invariant.entity;
      nodes_are = c.self.invariant.nodes_are;
      values_are = c.self.invariant.values_are;
      held = c.self.invariant.held;
      value_is = c.self.invariant.value_is;
      slots_are = c.self.invariant.slots_are;
      now_is = c.self.invariant.now_is;
      fitting = subst (λ (frames : List Frame). IsFitting (slots_of row.schema) (environment_in row.schema frames)) (sym (frames_in-Bound _ _ _)) (
        subst (λ (r : Row). Suits (record c.args.outer.now { row = r }) c.args.variable.now c.args.value.now) (sym to_outer) c.requires.suits,
        subst (λ (r : Row). IsFitting (slots_of r.schema) (environment_in r.schema (frames_in c.outer.inside.frames))) (sym same) c.outer.invariant.fitting,
      );
    }

pub returns : goal.returns
returns c =
    let context = c.self.inside in
    let outer = c.args.outer.now in
    let frames : List Frame = frame_of c.args.variable.now c.args.value.now ∷ frames_in c.outer.inside.frames in
    ap (λ (frames : List Frame). context_in context.entity.now context.moment.now context.checked.now.list frames) (frames_in-Bound _ _ _)
    ∙ ap (λ (s : ContextModel). context_in s.row s.moment s.list frames) c.self.view_is
    ∙ alike c.args.self.now outer frames c.requires.beside
    ∙ ap (λ (s : ContextModel). context_in outer.row outer.moment outer.list (frame_of c.args.variable.now c.args.value.now ∷ s.frames)) c.outer.view_is
