use Rattle.std.proofs.Common.{◌≡◌, ◌⊎◌, [], subst}
use Rattle.edm_rows.specs.private.HeldRows.{AreTypesOf}
use Rattle.edm_rows.proofs.TypesKept.{either_changed}
use Rattle.edm_rows.proofs.row_layout.RowLayout.new.Goals as goal

pub invariant_of-result : goal.invariant_of-result
invariant_of-result c =
    let types = c.types_of-types in
    let now = c.keep_types.new.types.items in
    record {
      is_plan = c.requires;
      types = either_changed _ c.args.plan types.result.items now c.keep_types.ensures.same (subst (λ s. (types.result.items ≡ []) ⊎ AreTypesOf s c.args.plan types.result.items) c.schema.ensures types.ensures.types);
      kept = c.keep_types.ensures.kept;
    }
