use Rattle.std.proofs.Common.{ap, arith, subst, take}
use Rattle.std.specs.Str.{IsAscii}
use Rattle.odata_functions.proofs.texts.Offsets.{all_before, plain_before, rest_offset}
use Rattle.odata_functions.proofs.text_parts.offset_of.Goals as goal

pub returns-then-text-count : goal.returns-then-text-count
returns-then-text-count c = all_before c.args.text.now c.utf8.text c.args.count (omega arith)

pub returns-then-is_ascii : goal.returns-then-is_ascii
returns-then-is_ascii c =
    plain_before c.args.text.now c.utf8.text c.args.count (omega arith)
    (subst IsAscii (ap (take c.args.count) c.as_bytes.ensures.value) c.if-is_ascii.ensures.cases)

pub returns : goal.returns
returns c = rest_offset c.args.text.now c.utf8.text c.rest_behind.result.now c.args.count c.rest_behind.ensures
