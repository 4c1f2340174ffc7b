use Rattle.std.proofs.Common.{◌≡◌, ◌==◌, List, [], ◌∷◌, length, true, refl, sym, ap, ◌∙◌, subst, MatchResult, arith}
use Rattle.std.proofs.lemmas.Bool.{eqb-true}
use Rattle.csdl_schema.specs.ExpansionView.{StepModel}
use Rattle.edm_rows.specs.RowLayout.{LayoutOfRows}
use Rattle.odata_checked_filter.specs.Filter.{Filter}
use Rattle.row_judges.specs.RowAnswer.{IsLayoutOfFilter}
use Rattle.call_handles.specs.HeldType.{EntityType}
use Rattle.call_handles.specs.private.HeldType.{IsHeldType}
use Rattle.call_handles.specs.declared.call_fault.Fault.TheVariants.{Memory}
use Rattle.handle_calls.proofs.filter_calls.layout_for.Goals.{in-Ok, in-Err}
use Rattle.handle_calls.proofs.filter_calls.layout_for.Goals as goal

none_of_length : (steps : List StepModel) → (length steps == 0) ≡ true → steps ≡ []
none_of_length [] is = refl
none_of_length (step ∷ steps) is = absurd (omega (arith, eqb-true (length (step ∷ steps)) 0 is))

-- the layout of a type serves a filter that needs nothing expanded
shared_layout : (filter : Filter) (type : EntityType) (layout : LayoutOfRows) → IsHeldType type layout → filter.schema ≡ type.schema → filter.filtered ≡ type.id → layout.expansion ≡ filter.expansion → IsLayoutOfFilter filter layout
shared_layout filter type layout held of_schema of_type same =
    record { schema = held.of_schema ∙ sym of_schema; type_id = held.of_type ∙ sym of_type; whole = λ whole. same }

pub row_layout_of-layout-requires : goal.row_layout_of-layout-requires
row_layout_of-layout-requires c = c.in-Ok-try_clone.ensures ∙ ap (λ (type : EntityType). type.schema) c.held.view_is ∙ sym c.requires.schema

pub returns-then-is_empty-2 : goal.returns-then-is_empty-2
returns-then-is_empty-2 c =
    let filter = c.args.checked.now in
    let type : EntityType = record { schema = c.held.inside.schema.value; id = c.held.inside.id } in
    let layout = c.held.inside.layout.value in
    let own = none_of_length layout.expansion
    (ap (λ (l : LayoutOfRows). length l.expansion == 0) (sym c.deref.ensures) ∙ ap (λ (steps : List StepModel). length steps == 0) (sym c.expansion.ensures) ∙ sym c.is_empty.ensures ∙ c.if-is_empty.true) in
    let needed = none_of_length filter.expansion
    (ap (λ (steps : List StepModel). length steps == 0) (sym c.expansion-then-is_empty.ensures.same) ∙ sym c.is_empty-then-is_empty.ensures ∙ c.if-is_empty-2.true) in
    let is = shared_layout filter type layout c.held.invariant (c.requires.schema ∙ ap (λ (t : EntityType). t.schema) (sym c.held.view_is)) (c.requires.filtered ∙ ap (λ (t : EntityType). t.id) (sym c.held.view_is)) (own ∙ sym needed) in
    elim c.match-try_clone.branch [
      | in-Ok w ↦
          subst (λ r. MatchResult r (λ shared. IsLayoutOfFilter filter shared.value) (λ fault. fault ≡ Memory)) (sym w.result-is)
          (subst (IsLayoutOfFilter filter) (sym w.in-Ok.ensures) is)
      | in-Err w ↦ subst (λ r. MatchResult r (λ shared. IsLayoutOfFilter filter shared.value) (λ fault. fault ≡ Memory)) (sym w.result-is) refl
    ]
