use Rattle.std.proofs.Common.{◌≡◌, ◌+◌, ◌<◌, ◌∙◌, ◌∷◌, suc, Bor, List, ℕ, length, map, drop, get_or, option_map, sym, ap, arith}
use Rattle.std.proofs.Math.Seq.{drop-cons}
use Rattle.csdl_schema.specs.private.Placed.{first_reported, lesser_of, reported_at}
use Rattle.csdl_schema.proofs.Chains.{lesser_of_both}
use Rattle.csdl_schema.proofs.property_names.first_reported.Goals as goal

pub loop-place-preserved : goal.loop-place-preserved
loop-place-preserved c =
    let firsts = map (option_map (λ (s : Bor (List ℕ)). s.now)) c.args.firsts.now in
    let places = c.args.places.now in
    let i = c.loop-place.place-index in
    let first = option_map (λ (s : Bor (List ℕ)). s.now) c.loop-place.first in
    let within : i < length places = omega (arith, c.loop-place-test.true) in
    let next : i + 1 ≡ suc i = omega arith in
    let step : drop i places ≡ get_or places i 0 ∷ drop (suc i) places = drop-cons places i 0 within in
    ap (λ k. lesser_of (option_map (λ (s : Bor (List ℕ)). s.now) c.lesser_of-first.result) (first_reported firsts (drop k places))) next
    ∙ ap (λ o. lesser_of o (first_reported firsts (drop (suc i) places))) (c.lesser_of-first.ensures ∙ ap (lesser_of first) c.reported_at.ensures)
    ∙ lesser_of_both first (reported_at firsts (get_or places i 0)) (first_reported firsts (drop (suc i) places))
    ∙ ap (λ ps. lesser_of first (first_reported firsts ps)) (sym step)
    ∙ c.loop-place.invariant
