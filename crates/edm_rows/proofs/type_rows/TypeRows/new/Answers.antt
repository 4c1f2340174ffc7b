use Rattle.std.proofs.Common.{◌≡◌, ◌⊎◌, [], false, subst}
use Rattle.std.proofs.lemmas.Bool.{false≢true}
use Rattle.edm_rows.specs.HeldSchema.{schema_in}
use Rattle.edm_rows.specs.private.HeldRows.{AreTypesOf}
use Rattle.edm_rows.proofs.RowsStay.{all_pass, none_kept}
use Rattle.edm_rows.proofs.type_rows.TypeRows.new.Goals as goal

pub invariant_of-result : goal.invariant_of-result
invariant_of-result c =
    let types = c.types_of-types in
    record {
      is_plan = c.requires;
      types = subst (λ s. (types.result.items ≡ []) ⊎ AreTypesOf s c.args.plan types.result.items) c.schema.ensures types.ensures.types;
      known = c.new-2.ensures (schema_in c.args.schema);
      ready = λ e. absurd (false≢true e);
    }

pub returns-clause-none_kept : goal.returns-clause-none_kept
returns-clause-none_kept c = none_kept c.types_of-types.result.items c.types_of-types.ensures.fresh

pub returns-clause-all_pass : goal.returns-clause-all_pass
returns-clause-all_pass c = all_pass c.types_of-types.result.items c.types_of-types.ensures.fresh
