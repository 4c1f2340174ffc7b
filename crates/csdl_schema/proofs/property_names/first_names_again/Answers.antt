use Rattle.std.proofs.Common.{◌≡◌, ◌+◌, ◌<◌, ◌∙◌, ◌++◌, suc, Bor, List, ℕ, length, map, drop, option_map, sym, ap, arith}
use Rattle.csdl_schema.specs.BaseFaults.{first_name}
use Rattle.csdl_schema.specs.private.Placed.{firsts_from, names_again_at}
use Rattle.csdl_schema.specs.private.PlacedView.{placed_of}
use Rattle.csdl_schema.proofs.Walks.{pushed_map, split_at}
use Rattle.csdl_schema.proofs.property_names.first_names_again.Goals as goal

pub loop-index-preserved : goal.loop-index-preserved
loop-index-preserved c =
    let types = c.args.types.now in
    let ps = placed_of types in
    let i = c.loop-index.index in
    let reported = option_map (λ (s : Bor (List ℕ)). s.now) in
    let within : i < length types = omega (arith, c.loop-index-test.true) in
    let next : i + 1 ≡ suc i = omega arith in
    let here = split_at types i within in
    ap (λ k. map reported c.push.new.self.items ++ firsts_from ps k (placed_of (drop k types))) next
    ∙ pushed_map reported c.loop-index.firsts.items c.push.new.self.items c.in_ok-first_again.field-0 (first_name (names_again_at ps i)) (firsts_from ps (suc i) (placed_of (drop (suc i) types))) _
    c.in_ok-push.ensures.items c.in_ok-first_again.ensures.first
    (ap (λ ts. map reported c.loop-index.firsts.items ++ firsts_from ps i (placed_of ts)) (sym here.2) ∙ c.loop-index.invariant)
