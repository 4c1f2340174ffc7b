use Rattle.std.proofs.Common.{◌≡◌, ◌<◌, false, is_none, refl, rules, arith}
use Rattle.enumeration_texts.proofs.TextsStand.{front_first, inside_by, own_so, some_number, spelled_so}
use Rattle.enumeration_texts.proofs.known_texts.known_text.Goals as goal

pub returns-clause-known : goal.returns-clause-known
returns-clause-known c =
    let found : is_none c.enum_value.result ≡ false = search rules in
    let v = c.enum_value.ensures in
    let quote = c.is_plain_text.ensures.quote c.if-not-is_plain_text.false in
    let text = c.args.noted.now.text in
    let n = c.args.noted.now.length in
    let few : n < 16 = omega (arith, c.if-noted-ge-TOO_LONG.false) in
    let first = front_first text _ c.front_of.result n refl (inside_by text n quote) few c.front_of.ensures.first in
    own_so c.args.schema.now c.args.noted.now.id n text c.in-Ok.text.now c.front_of.result c.mask_of.result few c.in-Ok.ensures.cases.0
    (some_number c.args.schema.now c.args.noted.now.id c.in-Ok.text.now c.enum_value.result found v.by_name v.value v.within) quote c.front_of.ensures.long first

pub returns-clause-spelled : goal.returns-clause-spelled
returns-clause-spelled c =
    let plain = c.is_plain_text.ensures in
    let done = c.if-not-is_plain_text.false in
    let text = c.args.noted.now.text in
    let n = c.args.noted.now.length in
    let few : n < 16 = omega (arith, c.if-noted-ge-TOO_LONG.false) in
    let first = front_first text _ c.front_of.result n refl (inside_by text n (plain.quote done)) few c.front_of.ensures.first in
    spelled_so c.args.noted.now.id n text c.front_of.result c.mask_of.result (plain.plain done) (plain.quote done) c.front_of.ensures.long first
    (λ k inside. c.mask_of.ensures.first k (omega (arith, inside, few)) inside)
