use Rattle.std.proofs.Common.{◌∙◌, ap, Some, List, ℕ, nat_eq, string_bytes, if◌then◌else◌}
use Rattle.std.proofs.lemmas.Map.Text.{hash_map_updates_text}
use Rattle.std.specs.Cmp.Lexicographic.{pointwise}
use Rattle.indexmap.specs.IndexMap.{get_by_text}
use Rattle.csdl_declarations.specs.DeclaredTypeView.{type_view}
use Rattle.csdl_schema.specs.SchemaModel.{is_text_of}
use Rattle.csdl_schema.proofs.Placing.{either_name}
use Rattle.csdl_schema.proofs.type_index.add_names.Goals as goal

pub returns-clause-added : goal.returns-clause-added
returns-clause-added c = λ asked.
    let t = type_view c.args.declared.now in
    let old = c.args.index_by_name.now in
    let mid = c.add_alias_name.new.index_by_name in
    let name = c.in_ok-name.name in
    hash_map_updates_text (string_bytes name) mid c.insert.new.self _ c.in_ok-insert.ensures.updates asked
    ∙ ap (λ (n : List ℕ). if pointwise nat_eq n asked then Some c.args.index else get_by_text mid asked) (c.in_ok-name.ensures.ok ∙ c.as_str.ensures.value)
    ∙ ap (λ rest. if pointwise nat_eq t.name asked then Some c.args.index else rest) (c.in_ok-add_alias_name.ensures.added asked)
    ∙ either_name (pointwise nat_eq t.name asked) (is_text_of t.alias_name asked) (Some c.args.index) (get_by_text old asked)
