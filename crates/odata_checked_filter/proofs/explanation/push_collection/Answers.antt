use Rattle.std.proofs.Common.{◌∙◌, List, ℕ, ◌++◌, ap, codes, string_bytes}
use Rattle.odata_checked_filter.proofs.printed.Results.{on_ok, pushed_ok}
use Rattle.odata_checked_filter.proofs.explained.Lines.{collection_joined}
use Rattle.odata_checked_filter.proofs.explanation.push_collection.Goals as goal

pub returns : goal.returns
returns c =
    let before = string_bytes c.args.text.now in
    let name = c.args.name.now in
    let last : List ℕ = codes ")" in
    on_ok c.push_str-3.result
    (λ pushed. pushed
    ∙ ap (λ (t : List ℕ). t ++ last)
    (c.in_ok-push_str-2.ensures.bytes ∙ ap (λ (t : List ℕ). t ++ name) c.in_ok-push_str.ensures.bytes)
    ∙ collection_joined before (codes "Collection(") name last)
    (pushed_ok c.push_str-3.result _ _ _ c.push_str-3.ensures.bytes)
