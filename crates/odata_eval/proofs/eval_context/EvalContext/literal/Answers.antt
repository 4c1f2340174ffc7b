use Rattle.std.proofs.Common.{◌≡◌, ◌∙◌, ◌<◌, List, ap, arith, length, refl, slice_get, sym}
use Rattle.std.proofs.lemmas.Option.{slice_get_read}
use Rattle.edm_values.specs.declared.value.Value.{Value}
use Rattle.filter_context.specs.private.ContextModel.{ContextModel}
use Rattle.odata_eval.proofs.eval_context.EvalContext.literal.Goals as goal

pub offset_bounds-values-place : goal.offset_bounds-values-place
offset_bounds-values-place c =
    let same : c.self.inside.values.now ≡ c.args.self.now.list.values = c.self.invariant.values_are ∙ ap (λ (s : ContextModel). s.list.values) c.self.view_is in
    let count = ap (λ (xs : List Value). length xs) same in
    let within : c.args.place < length c.self.inside.values.now = omega (arith, count, c.requires) in
    record { fits = omega (arith, within, c.self.told) }

pub returns : goal.returns
returns c =
    let values = c.self.inside.values.now in
    let same : values ≡ c.args.self.now.list.values = c.self.invariant.values_are ∙ ap (λ (s : ContextModel). s.list.values) c.self.view_is in
    let count = ap (λ (xs : List Value). length xs) same in
    let within : c.args.place < length values = omega (arith, count, c.requires) in
    ap (λ (xs : List Value). slice_get xs c.args.place) (sym same) ∙ slice_get_read values (length values) c.args.place c.index-values-place.result refl within c.index-values-place.is
