use Rattle.std.proofs.Common.{◌≡◌, ◌++◌, List, ℕ, OnOk, string_bytes, subst, rules}
use Rattle.edm_values.proofs.literals.Guids.{hyphenated-spelling}
use Rattle.edm_values.proofs.guid_literal.write_guid.Goals as goal

pub returns-clause-ok : goal.returns-clause-ok
returns-clause-ok c =
    subst (λ (text : List ℕ). OnOk c.push_str.result (string_bytes c.push_str.new.self ≡ string_bytes c.args.out.now ++ text))
    (hyphenated-spelling c.encode_lower.result.now c.hyphenated.result c.args.guid c.encode_lower.ensures.text c.encode_lower.ensures.parsed c.hyphenated.ensures)
    (search rules)
