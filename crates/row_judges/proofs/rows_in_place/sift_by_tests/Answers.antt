use Rattle.std.proofs.Common.{List, Some, ap, ◌∙◌, sym, subst}
use Rattle.std.specs.Prelude.{slice_get, IfSome}
use Rattle.std.proofs.lemmas.List.Elements.{All-pop}
use Rattle.edm_rows.specs.RowsOfType.{RowsOfType}
use Rattle.edm_values.specs.declared.sieve.Sieve.{Sieve}
use Rattle.odata_eval.specs.FalseWhere.{IsSieveOf}
use Rattle.row_judges.specs.private.RowsInPlace.{IsTestAt}
use Rattle.row_judges.proofs.RowLemmas.RowsInPlace.{sieves_same}
use Rattle.row_judges.proofs.RowLemmas.SlotTests.{sifted_sieves}
use Rattle.row_judges.proofs.rows_in_place.sift_by_tests.Goals as goal

pub loop-test-init : goal.loop-test-init
loop-test-init c = record { same = sieves_same c.args.rows.now; tests = c.requires; left = c.slot_sieves.ensures.sieves }

pub loop-test-preserved : goal.loop-test-preserved
loop-test-preserved c =
    let l = c.loop-test in
    let filter = c.args.checked.now in
    let test = c.in-Some.test in
    let is = c.sift.ensures in
    let same = l.invariant.same in
    let popped = All-pop (IsSieveOf filter) l.tests.items c.pop.new.self.items (Some test) c.in-Some.ensures.items l.invariant.left in
    record {
      same = record {
        schema = ap (λ (r : RowsOfType). r.schema) is ∙ same.schema;
        type_id = ap (λ (r : RowsOfType). r.type_id) is ∙ same.type_id;
        expansion = ap (λ (r : RowsOfType). r.expansion) is ∙ same.expansion;
        is_whole = ap (λ (r : RowsOfType). r.is_whole) is ∙ same.is_whole;
        kept = ap (λ (r : RowsOfType). r.kept) is ∙ same.kept;
      };
      tests = λ slot.
          subst (λ (sieves : List Sieve). IfSome (slice_get sieves slot) (IsTestAt filter slot)) (sym (ap (λ (r : RowsOfType). r.sieves) is))
          (sifted_sieves (IsTestAt filter) l.rows.sieves test.slot test.sieve l.invariant.tests popped.1 slot);
      left = popped.0;
    }
