-- The items of a list at their indexes, from one on.
use Rattle.std.proofs.Common.{◌≡◌, ℕ, ◌+◌, ◌<◌, List, ◌∷◌, get_or, drop, length, sym, ap, ap₂, ◌∙◌, add-one, drop-cons}
use Rattle.line_filter.specs.ItemIndexes.{IndexedItem, indexed_from}

-- the first one of those that are left
pub indexed_next : {X : Type 0} (items : List X) (index : ℕ) (item : X) → index < length items → item ≡ get_or items index item
    → indexed_from index (drop index items) ≡ record { index = index; item = item } ∷ indexed_from (index + 1) (drop (index + 1) items)
indexed_next {X} items index item within is =
    let at : X → IndexedItem X = λ x. record { index = index; item = x } in
    ap (indexed_from index) (drop-cons items index item within)
    ∙ ap₂ (λ x rest. at x ∷ indexed_from (index + 1) rest) (sym is) (ap (λ n. drop n items) (sym (add-one index)))
