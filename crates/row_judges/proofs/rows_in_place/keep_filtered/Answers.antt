use Rattle.std.proofs.Common.{[], sym, ◌∙◌}
use Rattle.row_judges.proofs.rows_in_place.keep_filtered.Goals as goal

pub returns-clause-names : goal.returns-clause-names
returns-clause-names c =
    let first = c.keep_named.ensures.same in
    let same = c.keep_names.ensures.same in
    record {
      schema = same.schema ∙ first.schema ∙ c.requires.schema;
      type_id = same.type_id ∙ first.type_id ∙ c.requires.type_id;
      whole = λ whole. same.expansion ∙ first.expansion ∙ c.requires.whole (sym first.is_whole ∙ sym same.is_whole ∙ whole);
      keeps = record {
        unnamed = c.keep_names.ensures.kept;
        spelled = λ left. c.keep_named.ensures.named (c.keep_names.ensures.less [] left);
      };
    }
