use Rattle.std.proofs.Common.{◌≡◌, ◌∙◌, ◌++◌, ◌∷◌, [], ℕ, List, ap, flat_map, string_bytes}
use Rattle.csdl_schema.specs.SchemaModel.{properties_at}
use Rattle.report_calls.specs.TypeLines.{kind_word, property_line}
use Rattle.report_calls.proofs.TypeSteps.{joined_4, type_headed}
use Rattle.report_calls.proofs.type_lines.push_type.Goals as goal

pub returns : goal.returns
returns c =
    let schema = c.args.schema.now in
    let before = string_bytes c.args.text.now in
    let kind = kind_word c.is_entity.result in
    let name = c.whole_name.result.now in
    let end : List ℕ = 10 ∷ [] in
    let lines = flat_map property_line (properties_at schema c.args.id) in
    c.in_ok-push_properties.ensures
    ∙ ap (λ (t : List ℕ). t ++ lines)
    (c.in_ok-push_end.ensures
    ∙ ap (λ (t : List ℕ). t ++ end)
    (c.in_ok-push_str-2.ensures.bytes ∙ ap (λ (t : List ℕ). t ++ name) (c.in_ok-push_str.ensures.bytes ∙ ap (λ (t : List ℕ). before ++ t) c.type_word.ensures)))
    ∙ joined_4 before kind name end lines
    ∙ ap (λ (t : List ℕ). before ++ t) (type_headed schema c.args.id c.is_entity.result name c.requires c.is_entity.ensures c.whole_name.ensures)
