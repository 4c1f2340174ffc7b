use Rattle.std.proofs.Common.{◌≡◌, ◌+◌, ◌<◌, ℕ, List, IsSomeAnd, Option, get_or, length, slice_get, refl, sym, subst, arith}
use Rattle.std.proofs.lemmas.Option.{slice_get-get_or}
use Rattle.odata_checked_filter.specs.declared.checked_node.CheckedNode.{CheckedNode}
use Rattle.odata_checked_filter.proofs.needed_paths.lambda_places.Goals as goal

stop_at : (xs ys : List CheckedNode) (k : ℕ) (d : CheckedNode) → xs ≡ ys → k < length xs → IsSomeAnd (slice_get ys k) (λ found. (get_or xs k d).stop ≡ found.stop)
stop_at xs ys k d same within =
    subst (λ (ns : List CheckedNode). IsSomeAnd (slice_get ns k) (λ found. (get_or xs k d).stop ≡ found.stop)) same
    (subst (λ (o : Option CheckedNode). IsSomeAnd o (λ found. (get_or xs k d).stop ≡ found.stop)) (sym (slice_get-get_or xs k d within)) refl)

pub returns : goal.returns
returns c =
    let nodes = c.nodes-nodes.result.now in
    let same = c.nodes-nodes.ensures.same in
    let within : c.args.place + 1 < length nodes = subst (λ (ns : List CheckedNode). c.args.place + 1 < length ns) (sym same) c.requires in
    record {
      base_is = refl;
      body_is = stop_at nodes c.args.list.now.nodes (c.args.place + 1) c.index-nodes-place.result same within;
      stop_is = stop_at nodes c.args.list.now.nodes c.args.place c.index-nodes-place-2.result same (omega (arith, within));
    }
