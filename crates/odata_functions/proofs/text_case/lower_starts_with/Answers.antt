use Rattle.std.proofs.Common.{◌↔◌, ℕ, IsTrue, List, map, subst}
use Rattle.std.specs.Char.{to_ascii_lowercase}
use Rattle.odata_functions.specs.Texts.{HasStart}
use Rattle.odata_functions.proofs.texts.Lowered.{lower_start}
use Rattle.odata_functions.proofs.text_case.lower_starts_with.Goals as goal

pub returns : goal.returns
returns c =
    let of_part = subst (λ (t : List ℕ). IsTrue c.has_lower_front.result ↔ HasStart (map to_ascii_lowercase c.as_bytes.result.now) t) c.as_bytes-2.ensures.value c.has_lower_front.ensures in
    let reported = subst (λ (s : List ℕ). IsTrue c.has_lower_front.result ↔ HasStart (map to_ascii_lowercase s) c.args.part.now) c.as_bytes.ensures.value of_part in
    let alike = lower_start c.args.text.now c.args.part.now c.utf8.text c.utf8.part in
    (λ is. alike.0 (reported.0 is), λ has. reported.1 (alike.1 has))
