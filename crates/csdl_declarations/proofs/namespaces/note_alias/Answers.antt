use Rattle.std.proofs.Common.{◌∙◌, ap, Some, List, ℕ, nat_eq, string_bytes, if◌then◌else◌}
use Rattle.std.proofs.lemmas.Map.Text.{hash_map_updates_text}
use Rattle.std.specs.Cmp.Lexicographic.{pointwise}
use Rattle.indexmap.specs.IndexMap.{get_by_text}
use Rattle.csdl_declarations.proofs.Aliases.{known_before}
use Rattle.csdl_declarations.proofs.namespaces.note_alias.Goals as goal

pub returns-clause-noted : goal.returns-clause-noted
returns-clause-noted c = λ asked.
    let old = c.args.shared.now in
    let key = c.in_ok-key.key in
    let is_known = c.contains_key-is_known.result in
    hash_map_updates_text (string_bytes key) old c.insert.new.self _ c.in_ok-insert.ensures.updates asked
    ∙ ap (λ (n : List ℕ). if pointwise nat_eq n asked then Some is_known else get_by_text old asked) c.in_ok-key.ensures.ok
    ∙ known_before (get_by_text old) c.args.alias.now asked is_known c.contains_key-is_known.ensures
