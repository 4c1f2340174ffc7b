use Rattle.std.proofs.Common.{◌≡◌, ◌∙◌, ap, inr, refl}
use Rattle.edm_values.specs.declared.primitive.PrimitiveType.TheVariants as prim
use Rattle.edm_rows.specs.declared.kept_leaf.Taken.{Taken}
use Rattle.edm_rows.specs.declared.row_cache.Cache.{Cache}
use Rattle.edm_rows.specs.private.Held.{type_of}
use Rattle.edm_rows.specs.private.RowSlots.{kinds_of}
use Rattle.edm_rows.proofs.ValuesKept.{filled_conforms, filled_put, leaf_goes_on, leaf_value, text_leaf}
use Rattle.edm_rows.proofs.kept_value.take_seldom.Goals.{in-Text+in_default-rejected_text_end, in_default}
use Rattle.edm_rows.proofs.kept_value.take_seldom.Goals as goal

pub fill_value-requires-clause-slot : goal.fill_value-requires-clause-slot
fill_value-requires-clause-slot g c = c.requires.slot.is.agrees

pub fill_value-requires-clause-task : goal.fill_value-requires-clause-task
fill_value-requires-clause-task g c = c.requires.slot.is.task

pub returns-in-Some-fill_value-clause-taken : goal.returns-in-Some-fill_value-clause-taken
returns-in-Some-fill_value-clause-taken g c =
    let same : c.match-slot.cache.depth ≡ c.args.context.now.depth = elim c.match-slot.branch [
      | in-Text+in_default-rejected_text_end w ↦ ap (λ (cache : Cache). cache.depth) w.cache-is ∙ w.rejected_text_end.ensures.depth ∙ c.requires.depth
      | in_default w ↦ ap (λ (cache : Cache). cache.depth) w.cache-is ∙ c.requires.depth
    ] in
    filled_put c.args.context.now c.args.slot.now c.requires.slot c.args.context.now.depth c.match-slot.cache.depth c.args.place c.in-Some-fill_value.end c.fill_value.new.value same c.in-Some-fill_value.ensures.filled

pub returns-in-Some-fill_value-clause-goes_on : goal.returns-in-Some-fill_value-clause-goes_on
returns-in-Some-fill_value-clause-goes_on g c whole = inr (filled_conforms c.args.context.now c.args.slot.now c.requires.slot c.fill_value.new.value c.in-Some-fill_value.ensures.filled.1)

pub returns-in-Some-clause-taken : goal.returns-in-Some-clause-taken
returns-in-Some-clause-taken g c =
    let context = c.args.context.now in
    let slot = c.args.slot.now in
    let leaf = text_leaf slot.task c.in-Text.is in
    let end = c.in-Some.end in
    leaf_value context slot c.requires.slot leaf.0 leaf.1 prim.String (ap (type_of (kinds_of context.schema.now context.plan.now.plans.items slot)) c.in-Text.is) context.line context.depth c.args.place c.args.value.now c.args.value.now (Taken.Rejected end) refl
    (c.in-Some.ensures.rejected, refl)

pub returns-in-Some-clause-goes_on : goal.returns-in-Some-clause-goes_on
returns-in-Some-clause-goes_on g c whole =
    let context = c.args.context.now in
    let slot = c.args.slot.now in
    let leaf = text_leaf slot.task c.in-Text.is in
    let end = c.in-Some.end in
    leaf_goes_on context slot c.requires.slot leaf.0 leaf.1 prim.String (ap (type_of (kinds_of context.schema.now context.plan.now.plans.items slot)) c.in-Text.is) context.line c.args.place c.args.value.now c.args.value.now (Taken.Rejected end)
    (c.in-Some.ensures.rejected, refl) whole
