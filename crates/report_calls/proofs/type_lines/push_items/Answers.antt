use Rattle.std.proofs.Common.{◌≡◌, ◌∙◌, ◌++◌, ℕ, Bool, List, ap, codes, string_bytes, sym}
use Rattle.report_calls.specs.TypeLines.{of_items}
use Rattle.report_calls.proofs.TypeSteps.{joined_3}
use Rattle.report_calls.proofs.type_lines.push_items.Goals as goal

pub returns-in_ok-push_str-3 : goal.returns-in_ok-push_str-3
returns-in_ok-push_str-3 c =
    let before = string_bytes c.args.text.now in
    let first : List ℕ = codes "Collection(" in
    let item = c.args.item.now in
    let last : List ℕ = codes ")" in
    let all : of_items c.args.many item ≡ first ++ (item ++ last) = ap (λ (m : Bool). of_items m item) c.if-many.true in
    c.in_ok-push_str-3.ensures.bytes
    ∙ ap (λ (t : List ℕ). t ++ last) (c.in_ok-push_str-2.ensures.bytes ∙ ap (λ (t : List ℕ). t ++ item) c.in_ok-push_str.ensures.bytes)
    ∙ joined_3 before first item last
    ∙ ap (λ (t : List ℕ). before ++ t) (sym all)
