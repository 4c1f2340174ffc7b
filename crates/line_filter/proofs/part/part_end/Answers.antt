use Rattle.std.proofs.Common.{◌≡◌, ◌*◌, ◌/◌, ◌<◌, ◌≤◌, ◌^◌, ◌∙◌, ℕ, ap, ap₂, subst₂, sym, arith}
use Rattle.line_filter.proofs.PartLaws.Ends.{part_end_within, part_product}
use Rattle.line_filter.proofs.part.part_end.Goals as goal

pub overflow_mul-bytes : goal.overflow_mul-bytes
overflow_mul-bytes c =
    let product = part_product c.args.size c.args.number (omega arith) (omega arith) in
    let small : c.from.result * c.from-2.result < 2 ^ 128 = subst₂ (λ (a b : ℕ). a * b < 2 ^ 128) (sym c.from.ensures) (sym c.from-2.ensures) product in
    omega (arith, small)

pub overflow_cast-result : goal.overflow_cast-result
overflow_cast-result c =
    let same : c.from.result * c.from-2.result / c.from-3.result ≡ c.args.size * c.args.number / c.args.count =
    ap₂ (λ (a b : ℕ). a * b / c.from-3.result) c.from.ensures c.from-2.ensures ∙ ap (λ (k : ℕ). c.args.size * c.args.number / k) c.from-3.ensures in
    let within : c.args.size * c.args.number / c.args.count ≤ c.args.size = part_end_within c.args.size c.args.count c.args.number c.requires.within in
    omega (arith, same, within)
