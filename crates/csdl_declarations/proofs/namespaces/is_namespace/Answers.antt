use Rattle.std.proofs.Common.{◌≡◌, ◌∙◌, sym, ap, not, ◌&&◌, is_some, false, true}
use Rattle.serde_json.specs.Find.{get}
use Rattle.serde_json.specs.View.{view}
use Rattle.csdl_declarations.specs.Members.{is_read_over}
use Rattle.csdl_declarations.proofs.Aliases.{is_namespace_in, some_mapped}
use Rattle.csdl_declarations.proofs.namespaces.is_namespace.Goals as goal

pub returns-then-not-is_read_over : goal.returns-then-not-is_read_over
returns-then-not-is_read_over c =
    let d = view c.args.document.now in
    let name = c.args.name.now in
    let kept : is_read_over name ≡ false = sym c.is_read_over.ensures ∙ c.if-not-is_read_over.true in
    c.is_some.ensures
    ∙ some_mapped c.get.result
    ∙ ap is_some c.get.ensures
    ∙ ap (λ v. not v && is_some (get name d)) (sym kept)
    ∙ sym (is_namespace_in d name)

pub returns-else-not-is_read_over : goal.returns-else-not-is_read_over
returns-else-not-is_read_over c =
    let d = view c.args.document.now in
    let name = c.args.name.now in
    let over : is_read_over name ≡ true = sym c.is_read_over.ensures ∙ c.if-not-is_read_over.false in
    ap not c.if-not-is_read_over.false
    ∙ ap (λ v. not v && is_some (get name d)) (sym over)
    ∙ sym (is_namespace_in d name)
