use Rattle.std.proofs.Common.{None, Some, refl, sym, ap, ◌∙◌, subst}
use Rattle.edm_rows.specs.declared.row_types.SlotKind.{SlotKind}
use Rattle.edm_rows.specs.private.RowTypes.{IsKindOf}
use Rattle.edm_rows.proofs.row_types.kind_of.Goals as goal

pub returns-in_default : goal.returns-in_default
returns-in_default c = subst (λ o. IsKindOf o c.other_kind.result) (sym c.in_default.is) c.other_kind.ensures.task

pub returns-in-Prim : goal.returns-in-Prim
returns-in-Prim c =
    let kind : SlotKind = record { task = c.task_of_prim.result; prim = c.in-Prim.prim; member_of = None; sure = c.sure_digits.result } in
    subst (λ o. IsKindOf o kind) (sym (c.in-Some.is ∙ ap Some c.in-Prim.is)) (refl, c.task_of_prim.ensures, c.sure_digits.ensures)

pub returns-in-Enum : goal.returns-in-Enum
returns-in-Enum c = subst (λ o. IsKindOf o c.other_kind-in-Enum.result) (sym (c.in-Some.is ∙ ap Some c.in-Enum.is)) (c.other_kind-in-Enum.ensures.task, c.other_kind-in-Enum.ensures.member_of)

pub returns-in-Complex : goal.returns-in-Complex
returns-in-Complex c = subst (λ o. IsKindOf o c.other_kind-in-Complex.result) (sym (c.in-Some.is ∙ ap Some c.in-Complex.is)) c.other_kind-in-Complex.ensures.task
