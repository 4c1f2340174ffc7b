use Rattle.std.proofs.Common.{ℕ, List, sym, ◌∙◌, subst}
use Rattle.std.specs.Prelude.{All, ◌≡◌}
use Rattle.edm_values.specs.declared.sieve.Sieve.{Sieve}
use Rattle.csdl_schema.specs.SchemaModel.{HasDistinctNames, SchemaModel, properties_at}
use Rattle.row_judges.proofs.RowLemmas.RowsInPlace.{names_again, new_tests}
use Rattle.row_judges.proofs.rows_in_place.type_rows_of.Goals as goal

pub keep_filtered-requires : goal.keep_filtered-requires
keep_filtered-requires c =
    let new = c.new-rows.ensures in
    record {
      schema = new.schema ∙ c.schema-2.ensures;
      type_id = new.type_id ∙ c.plan_of.ensures.type_id;
      whole = λ whole. new.expansion ∙ c.plan_of.ensures.whole (sym new.whole ∙ whole);
    }

pub sift_by_tests-requires : goal.sift_by_tests-requires
sift_by_tests-requires c =
    new_tests c.args.checked.now c.keep_filtered.new.rows.sieves
    (subst (λ (sieves : List Sieve). All (λ sieve. sieve ≡ Sieve.All) sieves) (sym c.keep_filtered.ensures.sieves) c.new-rows.ensures.all_pass)

pub returns : goal.returns
returns c =
    let filter = c.args.checked.now in
    let same = c.sift_by_tests.ensures.same in
    record {
      names = names_again filter c.keep_filtered.new.rows c.sift_by_tests.new.rows same.schema same.type_id same.expansion same.is_whole same.kept c.keep_filtered.ensures.names;
      tests = c.sift_by_tests.ensures.tests;
      distinct = subst (λ (n : ℕ). HasDistinctNames (properties_at filter.schema n)) c.filtered_type.ensures.same
          (subst (λ (s : SchemaModel). HasDistinctNames (properties_at s c.filtered_type.result)) c.schema.ensures c.slots.ensures.distinct);
    }
