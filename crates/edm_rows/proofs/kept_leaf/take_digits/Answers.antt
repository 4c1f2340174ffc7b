use Rattle.std.proofs.Common.{◌<◌, ◌≤◌, ◌-◌, ℤ, pos, refl, ap, ◌∙◌, subst, arith, lit<, lt_of_lt_of_le}
use native.Mathlib.Nat.{pow-le-pow_right}
use Rattle.std.proofs.lemmas.Int.{to_z_pos}
use Rattle.std.specs.Int.{w64}
use Rattle.serde_json.specs.Data.{unsigned}
use Rattle.edm_values.specs.NumberTypes.{IsNumberOf}
use Rattle.edm_values.specs.SieveMeaning.{Rejects}
use Rattle.edm_values.specs.Val.{whole}
use Rattle.edm_values.specs.declared.value.Value.{Int}
use Rattle.edm_rows.proofs.LeavesKept.{number_puts, number_rejected}
use Rattle.edm_rows.proofs.kept_leaf.take_digits.Goals as goal

pub returns-then-rejects_number : goal.returns-then-rejects_number
returns-then-rejects_number c =
    let f = c.in-Some.ensures.whole in
    let n = c.in-Some.whole in
    let few : c.in-Some.end - c.args.place ≤ c.args.slot.now.sure = omega arith in
    let of : IsNumberOf c.args.slot.now.prim (pos n) = c.requires.of_number n (lt_of_lt_of_le c.in-Some.ensures.few (pow-le-pow_right (lit< tt) few)) in
    let rejects = c.rejects_number.ensures.0 c.if-rejects_number.true in (
      λ slots depth.
          number_rejected c.args.line.now c.args.place c.in-Some.end c.args.slot.now.sieve slots depth c.args.slot.now.prim f.0 (unsigned n) (pos n) f.1 f.2.read refl of
          (subst (λ (z : ℤ). Rejects c.args.slot.now.sieve (whole z)) (to_z_pos w64 n (omega (arith, f.2.bound))) rejects),
      refl,
    )

pub returns : goal.returns
returns c =
    let f = c.in-Some.ensures.whole in
    let n = c.in-Some.whole in
    let few : c.in-Some.end - c.args.place ≤ c.args.slot.now.sure = omega arith in
    let of : IsNumberOf c.args.slot.now.prim (pos n) = c.requires.of_number n (lt_of_lt_of_le c.in-Some.ensures.few (pow-le-pow_right (lit< tt) few)) in
    number_puts c.args.line.now c.args.place c.in-Some.end c.put_number.new.value c.args.slot.now.prim f.0 (unsigned n) (pos n) f.1 f.2.read refl of
    (c.put_number.ensures ∙ ap Int (to_z_pos w64 n (omega (arith, f.2.bound))))
