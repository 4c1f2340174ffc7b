use Rattle.std.proofs.Common.{◌≡◌, ◌∙◌, ap, ℕ, zero, suc, ◌-◌, List, [], ◌∷◌, length, map, replicate, take, drop, arith, refl}
use Rattle.std.specs.Prelude.{string_bytes}
use Rattle.odata_syntax.specs.TextTree.{text_in}
use Rattle.odata_checked_filter.specs.FlatTree.{FlatTree}
use Rattle.odata_checked_filter.specs.ListChanges.{nothing_yet, with_room}
use Rattle.odata_checked_filter.proofs.node_list.NodeList.make_room.Goals as goal

maps_alike : {X Y : Type 0} (f : X → Y) (n : ℕ) (x : X) (y : Y) → f x ≡ y → map f (replicate n x) ≡ replicate n y
maps_alike f zero x y is = refl
maps_alike f (suc n) x y is = λ j. is j ∷ maps_alike f n x y is j

-- the range at the end of a text is empty
nothing_at : (bytes text : List ℕ) → bytes ≡ text → text_in bytes (record { start = length text; stop = length text }) ≡ []
nothing_at bytes text same =
    let none : length text - length text ≡ 0 = omega arith in
    ap (λ (k : ℕ). take k (drop (length text) bytes)) none

pub returns-clause-ok : goal.returns-clause-ok
returns-clause-ok c =
    let source : List ℕ = string_bytes c.in_ok-self-inside.field-0 in
    let text : source ≡ c.args.source.now = c.in_ok-self-inside.ensures.ok in
    let nodes : c.in_ok-nodes.nodes.items ≡ replicate c.args.count nothing_yet = c.in_ok-nodes.ensures.items_if_clones_equal (λ y same. same) in
    let texts : map (text_in source) c.in_ok-texts.texts.items ≡ replicate c.args.count [] =
    ap (map (text_in source)) (c.in_ok-texts.ensures.items_if_clones_equal (λ y same. same)) ∙ maps_alike (text_in source) c.args.count _ [] (nothing_at source c.args.source.now text) in
    (λ j. record {
      nodes = nodes j;
      values = c.self.inside.values.items;
      texts = texts j;
      source = text j;
    }) ∙ ap (λ (list : FlatTree). with_room list c.args.source.now c.args.count) c.self.view_is
