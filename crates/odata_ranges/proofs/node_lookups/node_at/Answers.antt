use Rattle.odata_ranges.proofs.Common.{◌≡◌, ◌<◌, ℕ, List, Some, get_or, length, slice_get, sym, subst, ap, ◌∙◌, slice_get-get_or, CheckedNode}
use Rattle.odata_ranges.proofs.node_lookups.node_at.Goals as goal

there : (xs ys : List CheckedNode) (k : ℕ) (d : CheckedNode) → xs ≡ ys → k < length ys → slice_get ys k ≡ Some (get_or xs k d)
there xs ys k d same within =
    ap (λ (ns : List CheckedNode). slice_get ns k) (sym same)
    ∙ slice_get-get_or xs k d (subst (λ (ns : List CheckedNode). k < length ns) (sym same) within)

pub returns-clause-found : goal.returns-clause-found
returns-clause-found c = there c.nodes.result.now c.args.checked.now.list.nodes c.args.place c.index-nodes-place.result c.nodes.ensures.same c.requires ∙ ap (λ (n : CheckedNode). Some n) (sym c.index-nodes-place.is)
