use Rattle.std.proofs.Common.{◌≤◌, arith, length, map, refl}
use Rattle.std.specs.Char.{to_ascii_lowercase}
use Rattle.odata_functions.proofs.texts.Fronts.{begins}
use Rattle.odata_functions.proofs.text_case.has_lower_front.Goals as goal

pub returns : goal.returns
returns c =
    let test = c.loop-at-test.false in
    let through : length c.args.front.now ≤ c.loop-at.at = omega (arith, test) in
    (λ is. begins (map to_ascii_lowercase c.args.bytes.now) c.args.front.now c.loop-at.at through c.loop-at.invariant, λ has. refl)
