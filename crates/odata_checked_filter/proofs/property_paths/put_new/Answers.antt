use Rattle.std.proofs.Common.{◌≡◌, ◌∙◌, ◌∷◌, [], ℕ, List, Bool, Global, String, ap, map, nat_eq, string_bytes, sym}
use Rattle.std.specs.Cmp.Lexicographic.{pointwise}
use Rattle.std.specs.List.{list_any}
use Rattle.std.proofs.lemmas.List.{map-append}
use Rattle.odata_checked_filter.proofs.named.Texts.{any_map, not_seen, put_seen, put_unseen, seen_among, seen_empty}
use Rattle.odata_checked_filter.proofs.property_paths.put_new.Goals as goal
use Rattle.odata_checked_filter.proofs.property_paths.put_new.Goals.{then-is_empty-via-then-is_empty, then-is_empty-via-else-is_empty+then-is_among}

-- whether the text is one of the code's
among_is :
    (held items : List (String Global)) (asked text : List ℕ) (answer is : Bool)
    → held ≡ items → asked ≡ text → answer ≡ list_any (λ s. pointwise nat_eq asked (string_bytes s)) held → answer ≡ is
    → list_any (pointwise nat_eq text) (map string_bytes items) ≡ is
among_is held items asked text answer is same spelled reported found =
    sym (any_map (pointwise nat_eq text) string_bytes items)
    ∙ ap (λ (xs : List (String Global)). list_any (λ s. pointwise nat_eq text (string_bytes s)) xs) (sym same)
    ∙ ap (λ (one : List ℕ). list_any (λ s. pointwise nat_eq one (string_bytes s)) held) (sym spelled)
    ∙ sym reported
    ∙ found

pub returns-then-is_empty : goal.returns-then-is_empty
returns-then-is_empty c =
    let items = c.args.found.now.items in
    let found = map string_bytes items in
    let text = string_bytes c.args.text in
    elim c.then-is_empty.branch [
      | then-is_empty-via-then-is_empty w ↦ put_seen found text (seen_empty found text c.as_str-asked.result.now c.is_empty.result c.as_str-asked.ensures.value c.is_empty.ensures w.if-is_empty.true)
      | then-is_empty-via-else-is_empty+then-is_among w ↦
          put_seen found text
          (seen_among found text
          (among_is w.as_slice.result.now items c.as_str-asked.result.now text w.is_among.result _ w.as_slice.ensures.value c.as_str-asked.ensures.value w.is_among.ensures w.if-is_among.true))
    ]

pub returns-in-Ok : goal.returns-in-Ok
returns-in-Ok c =
    let items = c.args.found.now.items in
    let found = map string_bytes items in
    let text = string_bytes c.args.text in
    ap (map string_bytes) c.in-Ok.ensures.items
    ∙ map-append string_bytes items (c.args.text ∷ [])
    ∙ put_unseen found text
    (not_seen found text c.as_str-asked.result.now c.is_empty.result c.as_str-asked.ensures.value c.is_empty.ensures c.if-is_empty.false
    (among_is c.as_slice.result.now items c.as_str-asked.result.now text c.is_among.result _ c.as_slice.ensures.value c.as_str-asked.ensures.value c.is_among.ensures c.if-is_among.false))
