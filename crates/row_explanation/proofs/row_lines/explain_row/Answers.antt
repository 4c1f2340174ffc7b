use Rattle.std.proofs.Common.{◌≡◌, ◌∙◌, sym, subst, refl, List}
use Rattle.csdl_schema.specs.ExpansionView.{StepModel, paths_in}
use Rattle.csdl_schema.specs.PathSet.{Covers}
use Rattle.row_explanation.proofs.row_lines.explain_row.Goals as goal

pub lines_of-requires : goal.lines_of-requires
lines_of-requires c =
    let entity = c.in-Ok.entity in
    let filter = c.args.filter.now in
    let whole : entity.expansion ≡ filter.expansion = c.in-Ok.ensures.expansion ∙ c.expansion.ensures.same in
    record {
      is = record {
        one_schema = sym (c.in-Ok.ensures.of_type.0 ∙ c.schema-schema.ensures);
        one_type = sym (c.in-Ok.ensures.of_type.1 ∙ c.filtered_type-type_id.ensures.same);
        covers = subst (λ (steps : List StepModel). Covers (paths_in entity.expansion) (paths_in steps)) whole (λ path needed. needed);
        as_value = refl;
      };
    }
