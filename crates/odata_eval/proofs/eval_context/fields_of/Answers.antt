use Rattle.std.proofs.Common.{◌≡◌, ◌∙◌, rules, sym}
use Rattle.edm_values.specs.declared.value.Value.{Record, the_lemmas}
use Rattle.odata_eval.proofs.eval_context.fields_of.Goals as goal

pub returns-in-Record : goal.returns-in-Record
returns-in-Record c = λ held is.
    let same : Record c.in-Record.fields ≡ Record held = sym c.in-Record.is ∙ is in
    let items : c.in-Record.fields.items ≡ held.items = search (rules, the_lemmas) in
    c.as_slice.ensures.value ∙ items

pub returns-in_default : goal.returns-in_default
returns-in_default c = λ held is. absurd (c.in_default.not-Record held is)
