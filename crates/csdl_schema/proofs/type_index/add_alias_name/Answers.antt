use Rattle.std.proofs.Common.{◌∙◌, sym, ap, Some, Option, List, ℕ, nat_eq, option_map, string_bytes, if◌then◌else◌}
use Rattle.std.proofs.lemmas.Map.Text.{hash_map_updates_text}
use Rattle.std.specs.Cmp.Lexicographic.{pointwise}
use Rattle.indexmap.specs.IndexMap.{get_by_text}
use Rattle.csdl_schema.specs.SchemaModel.{is_text_of}
use Rattle.csdl_schema.proofs.type_index.add_alias_name.Goals as goal

pub returns-in_ok-insert-in-Some-clause-added : goal.returns-in_ok-insert-in-Some-clause-added
returns-in_ok-insert-in-Some-clause-added c = λ asked.
    let old = c.args.index_by_name.now in
    let name = c.in_ok-name-in-Some.name in
    hash_map_updates_text (string_bytes name) old c.insert.new.self _ c.in_ok-insert-in-Some.ensures.updates asked
    ∙ ap (λ (n : List ℕ). if pointwise nat_eq n asked then Some c.args.index else get_by_text old asked) (c.in_ok-name-in-Some.ensures.ok ∙ c.as_str.ensures.value)
    ∙ ap (λ (o : Option (List ℕ)). if is_text_of o asked then Some c.args.index else get_by_text old asked) (ap (option_map string_bytes) (sym c.in-Some.is))
