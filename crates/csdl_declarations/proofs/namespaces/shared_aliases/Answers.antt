use Rattle.std.proofs.Common.{◌+◌, ◌∙◌, Bool, cond, sym, ap, codes, drop}
use Rattle.std.proofs.lemmas.List.Sums.{sum_by-cons}
use Rattle.indexmap.specs.IndexMap.{get_by_text}
use Rattle.csdl_declarations.specs.Members.{is_text, text_at}
use Rattle.csdl_declarations.specs.Faults.{alias_count}
use Rattle.csdl_declarations.specs.private.DocumentView.{members_of, member_view}
use Rattle.csdl_declarations.proofs.Aliases.{shared_after, noted_step}
use Rattle.csdl_declarations.proofs.Reading.{at_index}
use Rattle.csdl_declarations.proofs.namespaces.shared_aliases.Goals as goal

pub loop-schema-preserved : goal.loop-schema-preserved
loop-schema-preserved c = λ asked.
    let schemas = c.args.schemas.now in
    let i = c.loop-schema.schema-index in
    let m = c.schema-item.result in
    let rest = members_of (drop (i + 1) schemas) in
    let old = get_by_text c.loop-schema.shared asked in
    let step = at_index schemas i m c.loop-schema-test.true c.schema-item.is in
    let is : Bool = is_text asked (text_at (codes "$Alias") (member_view m).1) in
    ap (λ o. shared_after o (alias_count rest asked)) (c.in_ok-note_schema.ensures.noted asked)
    ∙ noted_step is old (alias_count rest asked)
    ∙ ap (shared_after old) (sym (sum_by-cons (λ x. cond (is_text asked (text_at (codes "$Alias") x.1)) 1 0) (member_view m) rest))
    ∙ ap (λ ms. shared_after old (alias_count (members_of ms) asked)) (sym step)
    ∙ c.loop-schema.invariant asked
