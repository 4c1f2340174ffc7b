use Rattle.odata_text.proofs.Common.{both_ways, arith, length, sym, ◌∙◌, IsNamed}
use Rattle.odata_text.proofs.spellings.Parts.{named-length}
use Rattle.odata_text.proofs.spellings.Sequences.{reach-sized, reach-unsized}
use Rattle.odata_text.proofs.word.name_length.Goals as goal
use Rattle.odata_text.proofs.word.name_length.Goals.{else-name-rest-via-then-name-rest+else-is_named, else-name-rest-via-else-name-rest}

pub returns-then-is_named : goal.returns-then-is_named
returns-then-is_named c =
    reach-sized (IsNamed c.args.name.now) (length c.args.name.now) c.args.rest.now (named-length c.args.name.now) (omega arith) (sym c.is_named.ensures ∙ c.if-is_named.true)

pub returns : goal.returns
returns c = reach-unsized (IsNamed c.args.name.now) (length c.args.name.now) c.args.rest.now (named-length c.args.name.now) (λ inside named. elim c.else-name-rest.branch [
  | else-name-rest-via-then-name-rest+else-is_named w ↦ both_ways _ (sym w.is_named.ensures ∙ w.if-is_named.false) named
  | else-name-rest-via-else-name-rest w ↦ omega arith
])
