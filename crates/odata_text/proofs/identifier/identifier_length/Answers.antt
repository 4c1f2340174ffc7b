use Rattle.odata_text.proofs.Common.{sym, ◌∙◌, chars_past_char, IsCharBoundary-start}
use Rattle.odata_text.proofs.characters.Identifiers.{reach-some, reach-none}
use Rattle.odata_text.proofs.identifier.identifier_length.Goals as goal

pub returns-in-Some-clause-reach : goal.returns-in-Some-clause-reach
returns-in-Some-clause-reach c =
    let first = chars_past_char c.args.rest.now _ c.in-Some.first c.utf8.rest (sym c.chars.ensures.rest ∙ c.in-Some.ensures.steps.0) in
    let boundary = rw c.identifier_run.ensures.value at c.identifier_run.ensures.boundary in
    rw c.identifier_run.ensures.value
    (reach-some c.args.rest.now _ c.in-Some.first c.utf8.rest first (sym c.begins_identifier.ensures ∙ c.if-begins_identifier.true) boundary)

pub returns-in_default-clause-reach : goal.returns-in_default-clause-reach
returns-in_default-clause-reach c =
    let first = chars_past_char c.args.rest.now _ c.in-Some.first c.utf8.rest (sym c.chars.ensures.rest ∙ c.in-Some.ensures.steps.0) in
    reach-none c.args.rest.now _ c.in-Some.first first (sym c.begins_identifier.ensures ∙ c.if-begins_identifier.false)

pub returns-in_default-clause-boundary : goal.returns-in_default-clause-boundary
returns-in_default-clause-boundary c = IsCharBoundary-start c.args.rest.now c.utf8.rest
