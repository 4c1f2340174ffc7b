use Rattle.std.proofs.Common.{◌≡◌, ◌==◌, drop, slice_index, true, false, ap, sym, ◌∙◌, arith, take_all, length-drop}
use Rattle.fast_float.specs.Text.{scan}
use Rattle.serde_json.specs.Read.{number_of, number_from}
use Rattle.json_room.proofs.NumberLemmas.{number_with_minus, number_without_minus}
use Rattle.json_room.proofs.number_text.number_of_text.Goals as goal

pub returns-then-has_minus : goal.returns-then-has_minus
returns-then-has_minus c =
    let bytes = c.as_bytes-bytes.result.now in
    let minus : (slice_index bytes 0 == 45) ≡ true = sym c.if-has_minus.ensures.value in
    let behind : c.scan.result ≡ scan (drop 1 bytes) = c.scan.ensures.parts ∙ ap scan (take_all _ (drop 1 bytes) (omega (arith, length-drop 1 bytes))) in
    number_with_minus bytes _ minus (c.number_below_zero.ensures ∙ ap (number_from true) behind) ∙ ap number_of c.as_bytes-bytes.ensures.value

pub returns-else-has_minus : goal.returns-else-has_minus
returns-else-has_minus c =
    let bytes = c.as_bytes-bytes.result.now in
    let none : (slice_index bytes 0 == 45) ≡ false = sym c.if-has_minus.ensures.value in
    number_without_minus bytes _ none (c.number_without_sign.ensures ∙ ap (number_from false) c.scan-else-has_minus.ensures.parts) ∙ ap number_of c.as_bytes-bytes.ensures.value
