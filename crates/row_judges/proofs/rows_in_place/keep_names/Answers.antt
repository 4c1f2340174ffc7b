use Rattle.std.proofs.Common.{◌≡◌, List, ℕ, [], length, sym, ap, subst, arith}
use Rattle.std.specs.Prelude.{slice_get, unwrap_or}
use Rattle.edm_rows.specs.RowsOfType.{names_unkept}
use Rattle.row_judges.proofs.RowLemmas.RowsBut.{below_next}
use Rattle.row_judges.proofs.RowLemmas.RowsInPlace.{kept_further, kept_same, unkept_less}
use Rattle.row_judges.proofs.rows_in_place.keep_names.Goals as goal

pub loop-place-init : goal.loop-place-init
loop-place-init c = (kept_same _, λ name passed. passed, λ k less. absurd (omega (arith, less)))

pub loop-place-preserved : goal.loop-place-preserved
loop-place-preserved c =
    let l = c.loop-place in
    let texts = c.args.checked.now.list.texts in
    let new = c.keep_named.new.self in
    let text : unwrap_or (slice_get texts l.place) [] ≡ c.text.result.now = ap (λ o. unwrap_or o []) c.text.ensures in
    let less = unkept_less l.rows new c.text.result.now c.keep_named.ensures.named c.keep_named.ensures.others in (
      kept_further _ _ _ l.invariant.0 c.keep_named.ensures.same,
      λ name left. l.invariant.1 name (less name left),
      below_next (λ k. ¬ names_unkept new (unwrap_or (slice_get texts k) [])) l.place (λ k before left. l.invariant.2 k before (less _ left)) (subst (λ (s : List ℕ). ¬ names_unkept new s) (sym text) c.keep_named.ensures.named),
    )

pub returns-clause-kept : goal.returns-clause-kept
returns-clause-kept c place less = c.loop-place.invariant.2 place (omega (arith, less, ap length c.nodes-nodes.ensures.same))
