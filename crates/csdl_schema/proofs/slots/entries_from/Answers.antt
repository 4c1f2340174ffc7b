use Rattle.std.proofs.Common.{◌≡◌, ◌+◌, ◌-◌, ◌<◌, ◌∙◌, drop, length, map, sym, ap, subst, arith}
use Rattle.std.proofs.lemmas.List.{drop-map, length-drop}
use Rattle.csdl_schema.specs.PropertyView.{AreFirstOf}
use Rattle.csdl_schema.specs.SchemaModel.{properties_at}
use Rattle.csdl_schema.specs.private.Placed.{entry_view, own_at}
use Rattle.csdl_schema.specs.private.PlacedView.{placed_of}
use Rattle.csdl_schema.specs.private.SchemaView.{chain_in, model_of}
use Rattle.csdl_schema.proofs.Pieces.{piece_from, own_within}
use Rattle.csdl_schema.proofs.Placing.{length-map}
use Rattle.csdl_schema.proofs.slots.entries_from.Goals as goal

pub split_at-requires : goal.split_at-requires
split_at-requires c =
    let ps = placed_of c.args.types.now in
    let chains = c.args.chains.now in
    let owner = c.owner_of-owner.result in
    let es = c.own_entries.result in
    let k = c.args.slot - c.inherited_at.result in
    let split : c.args.slot ≡ (chain_in chains owner).inherited + k = omega (arith, c.inherited_at.ensures, c.owner_of-owner.ensures.own) in
    let within : k < length (own_at ps owner) = own_within ps chains c.requires.chained owner c.args.slot k c.owner_of-owner.ensures.within split in
    let many : length (own_at ps owner) ≡ length (map entry_view es) = ap length (sym c.own_entries.ensures) in
    let seen : length (map entry_view es) ≡ length es = length-map entry_view es in
    omega (arith, within, many, seen)

pub returns-clause-first : goal.returns-clause-first
returns-clause-first c =
    let ps = placed_of c.args.types.now in
    let chains = c.args.chains.now in
    let owner = c.owner_of-owner.result in
    let k = c.args.slot - c.inherited_at.result in
    let split : c.args.slot ≡ (chain_in chains owner).inherited + k = omega (arith, c.inherited_at.ensures, c.owner_of-owner.ensures.own) in
    let same : drop k (own_at ps owner) ≡ map entry_view c.split_at.result.1 =
    ap (drop k) (sym c.own_entries.ensures) ∙ drop-map entry_view k c.own_entries.result ∙ ap (map entry_view) (sym c.split_at.ensures.back) in
    subst (AreFirstOf (model_of ps) (drop c.args.slot (properties_at (model_of ps) c.args.index))) same
    (piece_from ps chains c.requires.chained c.args.index owner c.args.slot k c.owner_of-owner.ensures.front c.owner_of-owner.ensures.within split)

pub returns-clause-some : goal.returns-clause-some
returns-clause-some c within =
    let ps = placed_of c.args.types.now in
    let chains = c.args.chains.now in
    let owner = c.owner_of-owner.result in
    let k = c.args.slot - c.inherited_at.result in
    let split : c.args.slot ≡ (chain_in chains owner).inherited + k = omega (arith, c.inherited_at.ensures, c.owner_of-owner.ensures.own) in
    let same : drop k (own_at ps owner) ≡ map entry_view c.split_at.result.1 =
    ap (drop k) (sym c.own_entries.ensures) ∙ drop-map entry_view k c.own_entries.result ∙ ap (map entry_view) (sym c.split_at.ensures.back) in
    let many : k < length (own_at ps owner) = own_within ps chains c.requires.chained owner c.args.slot k c.owner_of-owner.ensures.within split in
    let left : length (drop k (own_at ps owner)) ≡ length (own_at ps owner) - k = length-drop k (own_at ps owner) in
    let as_many : length (drop k (own_at ps owner)) ≡ length (map entry_view c.split_at.result.1) = ap length same in
    omega (arith, many, left, as_many)
