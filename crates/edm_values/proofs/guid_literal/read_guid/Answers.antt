use Rattle.std.proofs.Common.{◌∙◌, sym, ap, subst, IfSome, Option, List, ℕ}
use Rattle.std.specs.Result.{result_ok}
use Rattle.uuid.proofs.RoundTrips.{parse_gives}
use Rattle.edm_values.specs.GuidLiteral.{GuidValue}
use Rattle.edm_values.proofs.literals.Guids.{parsed-36, GuidValue-len, GuidValue-read, parsed-GuidValue}
use Rattle.edm_values.proofs.guid_literal.read_guid.Goals as goal

pub returns-clause-value : goal.returns-clause-value
returns-clause-value c =
    subst (λ (r : Option (List ℕ)). IfSome r (GuidValue c.args.text.now)) (sym c.ok.ensures.value)
    (GuidValue-read c.parse_str.result c.args.text.now c.if-text-ne-LEN.false c.parse_str.ensures.bytes)

pub returns-clause-only : goal.returns-clause-only
returns-clause-only c = λ guid value.
    c.ok.ensures.value ∙ ap result_ok (parse_gives c.parse_str.result c.args.text.now guid c.parse_str.ensures.ok c.parse_str.ensures.bytes
    (sym (parsed-36 c.args.text.now (GuidValue-len c.args.text.now guid value) ∙ parsed-GuidValue c.args.text.now guid value)))
