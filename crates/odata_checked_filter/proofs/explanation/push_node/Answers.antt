use Rattle.std.proofs.Common.{◌≡◌, ◌∙◌, ◌*◌, List, ℕ, [], ◌∷◌, ◌++◌, ap, string_bytes}
use Rattle.std.specs.Prelude.{replicate}
use Rattle.odata_checked_filter.specs.Explanation.{span_text}
use Rattle.odata_checked_filter.specs.TypeText.{type_text}
use Rattle.odata_checked_filter.specs.private.Explanation.{kind_label}
use Rattle.odata_checked_filter.proofs.printed.Results.{on_ok}
use Rattle.odata_checked_filter.proofs.explained.Lines.{line_joined}
use Rattle.odata_checked_filter.proofs.explanation.push_node.Goals as goal

pub returns : goal.returns
returns c =
    let before = string_bytes c.args.text.now in
    let indent = replicate (2 * c.args.depth) 32 in
    let span = span_text c.args.node.now.span in
    let label = kind_label c.args.node.now.kind c.args.beside.now in
    let type = type_text c.args.schema.now c.args.node.now.edm_type in
    let between : List ℕ = 32 ∷ (label ++ 32 ∷ []) in
    let last : List ℕ = 10 ∷ [] in
    let typed : string_bytes c.push_type.new.text ≡ (((before ++ indent) ++ span) ++ between) ++ type =
    c.in_ok-push_type.ensures
    ∙ ap (λ (t : List ℕ). t ++ type)
    (c.in_ok-push_between.ensures
    ∙ ap (λ (t : List ℕ). t ++ between) (c.in_ok-push_span.ensures ∙ ap (λ (t : List ℕ). t ++ span) c.in_ok-push_indent.ensures)) in
    on_ok c.push_end.result
    (λ ended. ended ∙ ap (λ (t : List ℕ). t ++ last) typed ∙ line_joined before indent span label type)
    c.push_end.ensures
