use Rattle.std.proofs.Common.{◌≡◌, ◌∙◌, ℤ, true, false, inl, inr, refl, subst, sym}
use Rattle.std.proofs.lemmas.Result.{err_from_is_err_and}
use Rattle.std.specs.Prelude.{IfSome}
use Rattle.edm_values.specs.MomentParts.{IsMoment}
use Rattle.odata_ranges.specs.Ranges.{AreRangesOf}
use Rattle.odata_sql.specs.Conditions.{FaultsIt}
use Rattle.edm_values.specs.Civil.{DateTime}
use Rattle.edm_values.specs.MomentParts.{IsFourDigitYear, IsOffset}
use Rattle.sql_tree.specs.TableModel.{TableModel, storage_in}
use Rattle.odata_sql.specs.Conditions.{IsItsCode, KeepsIt}
use Rattle.odata_sql.specs.Translation.{Says}
use Rattle.odata_sql.specs.Nesting.{ExceedsLevels}
use Rattle.odata_sql.specs.private.Refused.{IsRefused}
use Rattle.odata_sql.specs.declared.translation.Statement.{Statement}
use Rattle.odata_sql.proofs.StatementAnswers.{memory_is_no_column, memory_is_no_nul, own_table, refused_depth, refused_no_column, refused_no_nul}
use Rattle.odata_sql.proofs.NulFree.{free_at}
use Rattle.odata_sql.proofs.RangesFollow.{ranges_follow}
use Rattle.sql_outcomes.proofs.nodes.Contexts.{entities_typed}
use Rattle.odata_sql.proofs.translation.translate.Goals as goal

-- the moment that is given, by what its methods say
is_moment : (own civil : DateTime) (own_offset offset : ℤ) → civil ≡ own → IsFourDigitYear civil.date.year → offset ≡ own_offset → IsOffset offset → IsMoment own own_offset
is_moment own civil own_offset offset civil_is year offset_is within = (subst (λ (d : DateTime). IsFourDigitYear d.date.year) civil_is year, subst IsOffset offset_is within)

pub outcome_of-requires-clause-translated : goal.outcome_of-requires-clause-translated
outcome_of-requires-clause-translated c = record {
  moment = is_moment c.args.now.now.civil c.civil-civil.result c.args.now.now.offset_minutes c.offset_minutes-offset.result c.civil-civil.ensures.value c.civil-civil.ensures.year c.offset_minutes-offset.ensures.value c.offset_minutes-offset.ensures.within;
  right = c.nodes-nodes.ensures.right;
  ranges =
      ranges_follow (record { filter = c.args.checked.now; now = c.args.now.now }) (is_moment c.args.now.now.civil c.civil-civil.result c.args.now.now.offset_minutes c.offset_minutes-offset.result c.civil-civil.ensures.value c.civil-civil.ensures.year c.offset_minutes-offset.ensures.value c.offset_minutes-offset.ensures.within) (entities_typed c.what_fits_has_its_type.ensures) c.entities_are_kept.ensures
      c.as_slice.result.now (subst (AreRangesOf c.args.checked.now) (sym c.as_slice.ensures.value) c.in_ok-ranges.ensures);
  nul_free = free_at c.args.checked.now.list.values (c.is_nul_free.ensures.0 c.if-not-is_nul_free.false).0;
}

pub outcome_of-requires-clause-stored : goal.outcome_of-requires-clause-stored
outcome_of-requires-clause-stored c = own_table c.args.checked.now c.schema.result.now c.filtered_type.result (storage_in c.args.storage) c.schema.ensures c.filtered_type.ensures.same

pub keep_of-requires-clause-translated : goal.keep_of-requires-clause-translated
keep_of-requires-clause-translated c = record {
  moment = is_moment c.args.now.now.civil c.civil-civil.result c.args.now.now.offset_minutes c.offset_minutes-offset.result c.civil-civil.ensures.value c.civil-civil.ensures.year c.offset_minutes-offset.ensures.value c.offset_minutes-offset.ensures.within;
  right = c.nodes-nodes.ensures.right;
  ranges =
      ranges_follow (record { filter = c.args.checked.now; now = c.args.now.now }) (is_moment c.args.now.now.civil c.civil-civil.result c.args.now.now.offset_minutes c.offset_minutes-offset.result c.civil-civil.ensures.value c.civil-civil.ensures.year c.offset_minutes-offset.ensures.value c.offset_minutes-offset.ensures.within) (entities_typed c.what_fits_has_its_type.ensures) c.entities_are_kept.ensures
      c.as_slice.result.now (subst (AreRangesOf c.args.checked.now) (sym c.as_slice.ensures.value) c.in_ok-ranges.ensures);
  nul_free = free_at c.args.checked.now.list.values (c.is_nul_free.ensures.0 c.if-not-is_nul_free.false).0;
}

pub keep_of-requires-clause-stored : goal.keep_of-requires-clause-stored
keep_of-requires-clause-stored c = own_table c.args.checked.now c.schema.result.now c.filtered_type.result (storage_in c.args.storage) c.schema.ensures c.filtered_type.ensures.same

pub fault_of-requires-clause-translated : goal.fault_of-requires-clause-translated
fault_of-requires-clause-translated c = record {
  moment = is_moment c.args.now.now.civil c.civil-civil.result c.args.now.now.offset_minutes c.offset_minutes-offset.result c.civil-civil.ensures.value c.civil-civil.ensures.year c.offset_minutes-offset.ensures.value c.offset_minutes-offset.ensures.within;
  right = c.nodes-nodes.ensures.right;
  ranges =
      ranges_follow (record { filter = c.args.checked.now; now = c.args.now.now }) (is_moment c.args.now.now.civil c.civil-civil.result c.args.now.now.offset_minutes c.offset_minutes-offset.result c.civil-civil.ensures.value c.civil-civil.ensures.year c.offset_minutes-offset.ensures.value c.offset_minutes-offset.ensures.within) (entities_typed c.what_fits_has_its_type.ensures) c.entities_are_kept.ensures
      c.as_slice.result.now (subst (AreRangesOf c.args.checked.now) (sym c.as_slice.ensures.value) c.in_ok-ranges.ensures);
  nul_free = free_at c.args.checked.now.list.values (c.is_nul_free.ensures.0 c.if-not-is_nul_free.false).0;
}

pub fault_of-requires-clause-stored : goal.fault_of-requires-clause-stored
fault_of-requires-clause-stored c = own_table c.args.checked.now c.schema.result.now c.filtered_type.result (storage_in c.args.storage) c.schema.ensures c.filtered_type.ensures.same

pub fault_of-requires-clause-reported : goal.fault_of-requires-clause-reported
fault_of-requires-clause-reported c = (subst (AreRangesOf c.args.checked.now) (sym c.as_slice.ensures.value) c.in_ok-ranges.ensures).reported

pub returns-clause-outcome : goal.returns-clause-outcome
returns-clause-outcome c =
    subst (λ (table : TableModel). Says c.args.checked.now c.args.now.now c.args.dialect table c.in_ok-outcome_of.field-0 IsItsCode)
    (own_table c.args.checked.now c.schema.result.now c.filtered_type.result (storage_in c.args.storage) c.schema.ensures c.filtered_type.ensures.same) c.in_ok-outcome_of.ensures.ok

pub returns-clause-keep : goal.returns-clause-keep
returns-clause-keep c =
    subst (λ (table : TableModel). Says c.args.checked.now c.args.now.now c.args.dialect table c.in_ok-keep_of.field-0 KeepsIt)
    (own_table c.args.checked.now c.schema.result.now c.filtered_type.result (storage_in c.args.storage) c.schema.ensures c.filtered_type.ensures.same) c.in_ok-keep_of.ensures.ok

pub returns-clause-fault : goal.returns-clause-fault
returns-clause-fault c =
    subst (λ (table : TableModel). IfSome c.in_ok-fault_of.field-0 (λ (s : Statement). Says c.args.checked.now c.args.now.now c.args.dialect table s FaultsIt))
    (own_table c.args.checked.now c.schema.result.now c.filtered_type.result (storage_in c.args.storage) c.schema.ensures c.filtered_type.ensures.same) c.in_ok-fault_of.ensures.some

pub returns-clause-levels : goal.returns-clause-levels
returns-clause-levels c = λ exceeds. let both = c.in_ok-exceeds_levels.ensures.1 (subst ExceedsLevels (sym c.nodes.ensures.same) exceeds) in absurd (cc)

pub returns-clause-can_fault : goal.returns-clause-can_fault
returns-clause-can_fault c = c.in_ok-fault_of.ensures.can

-- ---- refusals

pub returns-then-not-is_nul_free-clause-nul : goal.returns-then-not-is_nul_free-clause-nul
returns-then-not-is_nul_free-clause-nul c = (λ is. λ free. let both : true ≡ false = sym (c.is_nul_free.ensures.1 free) ∙ c.if-not-is_nul_free.true in cc, λ bound. refl)

pub returns-then-not-is_nul_free-clause-no_column : goal.returns-then-not-is_nul_free-clause-no_column
returns-then-not-is_nul_free-clause-no_column c = (λ is. absurd (cc), λ missing. let both : true ≡ false = sym (c.is_nul_free.ensures.1 missing.0) ∙ c.if-not-is_nul_free.true in absurd (cc))

pub returns-then-not-has_columns-clause-nul : goal.returns-then-not-has_columns-clause-nul
returns-then-not-has_columns-clause-nul c = (λ is. absurd (cc), λ bound. absurd (bound (c.is_nul_free.ensures.0 c.if-not-is_nul_free.false)))

pub returns-then-not-has_columns-clause-no_column : goal.returns-then-not-has_columns-clause-no_column
returns-then-not-has_columns-clause-no_column c = (λ is. ((c.is_nul_free.ensures.0 c.if-not-is_nul_free.false), λ all. let both : true ≡ false = sym (c.has_columns.ensures.1 all) ∙ c.if-not-has_columns.true in cc), λ missing. refl)

pub returns-in_err-exceeds_levels-clause-nul : goal.returns-in_err-exceeds_levels-clause-nul
returns-in_err-exceeds_levels-clause-nul c =
    let exit = err_from_is_err_and c.from_residual.result c.from_residual.ensures.1 in
    memory_is_no_nul c.args.checked.now c.args.now.now c.args.dialect (storage_in c.args.storage) (c.is_nul_free.ensures.0 c.if-not-is_nul_free.false) (c.has_columns.ensures.0 c.if-not-has_columns.false) c.from_residual.result exit.0 exit.1 exit.2

pub returns-in_err-exceeds_levels-clause-no_column : goal.returns-in_err-exceeds_levels-clause-no_column
returns-in_err-exceeds_levels-clause-no_column c =
    let exit = err_from_is_err_and c.from_residual.result c.from_residual.ensures.1 in
    memory_is_no_column c.args.checked.now c.args.now.now c.args.dialect (storage_in c.args.storage) (c.is_nul_free.ensures.0 c.if-not-is_nul_free.false) (c.has_columns.ensures.0 c.if-not-has_columns.false) c.from_residual.result exit.0 exit.1 exit.2

pub returns-then-branch-clause-nul : goal.returns-then-branch-clause-nul
returns-then-branch-clause-nul c = (λ is. absurd (cc), λ bound. absurd (bound (c.is_nul_free.ensures.0 c.if-not-is_nul_free.false)))

pub returns-then-branch-clause-no_column : goal.returns-then-branch-clause-no_column
returns-then-branch-clause-no_column c = (λ is. absurd (cc), λ missing. absurd (missing.1 (c.has_columns.ensures.0 c.if-not-has_columns.false)))

pub returns-then-branch-clause-too_deep : goal.returns-then-branch-clause-too_deep
returns-then-branch-clause-too_deep c = λ is. inl (subst ExceedsLevels c.nodes.ensures.same (c.in_ok-exceeds_levels.ensures.0 c.if-branch.true))

pub returns-in_err-ranges-clause-nul : goal.returns-in_err-ranges-clause-nul
returns-in_err-ranges-clause-nul c =
    let exit = err_from_is_err_and c.from_residual-in_err-ranges.result c.from_residual-in_err-ranges.ensures.1 in
    memory_is_no_nul c.args.checked.now c.args.now.now c.args.dialect (storage_in c.args.storage) (c.is_nul_free.ensures.0 c.if-not-is_nul_free.false) (c.has_columns.ensures.0 c.if-not-has_columns.false) c.from_residual-in_err-ranges.result exit.0 exit.1 exit.2

pub returns-in_err-ranges-clause-no_column : goal.returns-in_err-ranges-clause-no_column
returns-in_err-ranges-clause-no_column c =
    let exit = err_from_is_err_and c.from_residual-in_err-ranges.result c.from_residual-in_err-ranges.ensures.1 in
    memory_is_no_column c.args.checked.now c.args.now.now c.args.dialect (storage_in c.args.storage) (c.is_nul_free.ensures.0 c.if-not-is_nul_free.false) (c.has_columns.ensures.0 c.if-not-has_columns.false) c.from_residual-in_err-ranges.result exit.0 exit.1 exit.2

pub returns-in_err-outcome_of-clause-nul : goal.returns-in_err-outcome_of-clause-nul
returns-in_err-outcome_of-clause-nul c =
    let exit = err_from_is_err_and c.from_residual-in_err-outcome_of.result c.from_residual-in_err-outcome_of.ensures.1 in
    refused_no_nul c.args.checked.now c.args.now.now c.args.dialect (storage_in c.args.storage) (c.is_nul_free.ensures.0 c.if-not-is_nul_free.false) (c.has_columns.ensures.0 c.if-not-has_columns.false) c.from_residual-in_err-outcome_of.result exit.0 exit.1 IsItsCode
    (subst (IsRefused c.args.checked.now c.args.now.now c.args.dialect IsItsCode) (sym exit.2) c.in_err-outcome_of.ensures.refused)

pub returns-in_err-outcome_of-clause-no_column : goal.returns-in_err-outcome_of-clause-no_column
returns-in_err-outcome_of-clause-no_column c =
    let exit = err_from_is_err_and c.from_residual-in_err-outcome_of.result c.from_residual-in_err-outcome_of.ensures.1 in
    refused_no_column c.args.checked.now c.args.now.now c.args.dialect (storage_in c.args.storage) (c.is_nul_free.ensures.0 c.if-not-is_nul_free.false) (c.has_columns.ensures.0 c.if-not-has_columns.false) c.from_residual-in_err-outcome_of.result exit.0 exit.1 IsItsCode
    (subst (IsRefused c.args.checked.now c.args.now.now c.args.dialect IsItsCode) (sym exit.2) c.in_err-outcome_of.ensures.refused)

pub returns-in_err-outcome_of-clause-too_deep : goal.returns-in_err-outcome_of-clause-too_deep
returns-in_err-outcome_of-clause-too_deep c =
    let exit = err_from_is_err_and c.from_residual-in_err-outcome_of.result c.from_residual-in_err-outcome_of.ensures.1 in
    refused_depth c.args.checked.now c.args.now.now c.args.dialect (storage_in c.args.storage) (c.is_nul_free.ensures.0 c.if-not-is_nul_free.false) (c.has_columns.ensures.0 c.if-not-has_columns.false) c.from_residual-in_err-outcome_of.result exit.0 exit.1 IsItsCode
    (subst (IsRefused c.args.checked.now c.args.now.now c.args.dialect IsItsCode) (sym exit.2) c.in_err-outcome_of.ensures.refused) (λ t. inl t)

pub returns-in_err-keep_of-clause-nul : goal.returns-in_err-keep_of-clause-nul
returns-in_err-keep_of-clause-nul c =
    let exit = err_from_is_err_and c.from_residual-in_err-keep_of.result c.from_residual-in_err-keep_of.ensures.1 in
    refused_no_nul c.args.checked.now c.args.now.now c.args.dialect (storage_in c.args.storage) (c.is_nul_free.ensures.0 c.if-not-is_nul_free.false) (c.has_columns.ensures.0 c.if-not-has_columns.false) c.from_residual-in_err-keep_of.result exit.0 exit.1 KeepsIt
    (subst (IsRefused c.args.checked.now c.args.now.now c.args.dialect KeepsIt) (sym exit.2) c.in_err-keep_of.ensures.refused)

pub returns-in_err-keep_of-clause-no_column : goal.returns-in_err-keep_of-clause-no_column
returns-in_err-keep_of-clause-no_column c =
    let exit = err_from_is_err_and c.from_residual-in_err-keep_of.result c.from_residual-in_err-keep_of.ensures.1 in
    refused_no_column c.args.checked.now c.args.now.now c.args.dialect (storage_in c.args.storage) (c.is_nul_free.ensures.0 c.if-not-is_nul_free.false) (c.has_columns.ensures.0 c.if-not-has_columns.false) c.from_residual-in_err-keep_of.result exit.0 exit.1 KeepsIt
    (subst (IsRefused c.args.checked.now c.args.now.now c.args.dialect KeepsIt) (sym exit.2) c.in_err-keep_of.ensures.refused)

pub returns-in_err-keep_of-clause-too_deep : goal.returns-in_err-keep_of-clause-too_deep
returns-in_err-keep_of-clause-too_deep c =
    let exit = err_from_is_err_and c.from_residual-in_err-keep_of.result c.from_residual-in_err-keep_of.ensures.1 in
    refused_depth c.args.checked.now c.args.now.now c.args.dialect (storage_in c.args.storage) (c.is_nul_free.ensures.0 c.if-not-is_nul_free.false) (c.has_columns.ensures.0 c.if-not-has_columns.false) c.from_residual-in_err-keep_of.result exit.0 exit.1 KeepsIt
    (subst (IsRefused c.args.checked.now c.args.now.now c.args.dialect KeepsIt) (sym exit.2) c.in_err-keep_of.ensures.refused) (λ t. inr (inl t))

pub returns-in_err-fault_of-clause-nul : goal.returns-in_err-fault_of-clause-nul
returns-in_err-fault_of-clause-nul c =
    let exit = err_from_is_err_and c.from_residual-in_err-fault_of.result c.from_residual-in_err-fault_of.ensures.1 in
    refused_no_nul c.args.checked.now c.args.now.now c.args.dialect (storage_in c.args.storage) (c.is_nul_free.ensures.0 c.if-not-is_nul_free.false) (c.has_columns.ensures.0 c.if-not-has_columns.false) c.from_residual-in_err-fault_of.result exit.0 exit.1 FaultsIt
    (subst (IsRefused c.args.checked.now c.args.now.now c.args.dialect FaultsIt) (sym exit.2) c.in_err-fault_of.ensures.refused)

pub returns-in_err-fault_of-clause-no_column : goal.returns-in_err-fault_of-clause-no_column
returns-in_err-fault_of-clause-no_column c =
    let exit = err_from_is_err_and c.from_residual-in_err-fault_of.result c.from_residual-in_err-fault_of.ensures.1 in
    refused_no_column c.args.checked.now c.args.now.now c.args.dialect (storage_in c.args.storage) (c.is_nul_free.ensures.0 c.if-not-is_nul_free.false) (c.has_columns.ensures.0 c.if-not-has_columns.false) c.from_residual-in_err-fault_of.result exit.0 exit.1 FaultsIt
    (subst (IsRefused c.args.checked.now c.args.now.now c.args.dialect FaultsIt) (sym exit.2) c.in_err-fault_of.ensures.refused)

pub returns-in_err-fault_of-clause-too_deep : goal.returns-in_err-fault_of-clause-too_deep
returns-in_err-fault_of-clause-too_deep c =
    let exit = err_from_is_err_and c.from_residual-in_err-fault_of.result c.from_residual-in_err-fault_of.ensures.1 in
    refused_depth c.args.checked.now c.args.now.now c.args.dialect (storage_in c.args.storage) (c.is_nul_free.ensures.0 c.if-not-is_nul_free.false) (c.has_columns.ensures.0 c.if-not-has_columns.false) c.from_residual-in_err-fault_of.result exit.0 exit.1 FaultsIt
    (subst (IsRefused c.args.checked.now c.args.now.now c.args.dialect FaultsIt) (sym exit.2) c.in_err-fault_of.ensures.refused) (λ t. inr (inr t))
