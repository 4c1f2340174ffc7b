use Rattle.std.proofs.Common.{◌≡◌, ◌⊎◌, ◌↔◌, ⊎_elim, ℕ, zero, suc, List, [], Option, None, Some, IfSome, slice_get, sym, subst}
use Rattle.csdl_schema.specs.SchemaModel.{HasDistinctNames, SchemaModel, properties_at}
use Rattle.edm_rows.specs.HeldSchema.{schema_in}
use Rattle.edm_rows.specs.RowsOfType.{IsSameButKept, RowsOfType, names_unkept}
use Rattle.edm_rows.specs.private.HeldRows.{marks_of, rows_seen}
use Rattle.edm_rows.specs.private.KeptRows.{names_unkept_of}
use Rattle.edm_rows.proofs.RowsStay.{all_but_kept, all_stay}
use Rattle.edm_rows.proofs.TypesKept.{by_marks, by_types, each_distinct}
use Rattle.edm_rows.proofs.type_rows.TypeRows.keep_named.Goals as goal

pub keep_name_in-requires : goal.keep_name_in-requires
keep_name_in-requires c =
    let rows = c.self.inside in
    subst (λ (s : SchemaModel). (place : ℕ) → IfSome (slice_get rows.types.items place) (λ t. HasDistinctNames (properties_at s t.type_id))) (sym c.schema.ensures)
    (each_distinct (schema_in rows.schema) rows.plan rows.types.items c.self.invariant.types)

pub invariant_of-self : goal.invariant_of-self
invariant_of-self c = all_stay c.self.inside c.self.invariant c.keep_name_in.new.types c.keep_name_in.ensures.same

pub returns-clause-same : goal.returns-clause-same
returns-clause-same c =
    subst (λ (m : RowsOfType). IsSameButKept m (rows_seen (record c.self.inside { types = c.keep_name_in.new.types }))) c.self.view_is
    (all_but_kept c.self.inside c.self.invariant c.keep_name_in.new.types c.keep_name_in.ensures.same c.keep_name_in.ensures.sieves)

pub returns-clause-named : goal.returns-clause-named
returns-clause-named c un =
    let now = c.keep_name_in.new.types.items in
    subst (λ (s : SchemaModel). ¬ names_unkept_of s now c.args.name.now) c.schema.ensures c.keep_name_in.ensures.named (by_types (schema_in c.self.inside.schema) now c.args.name.now un)

pub returns-clause-others : goal.returns-clause-others
returns-clause-others c other differs =
    let rows = c.self.inside in
    let schema = schema_in rows.schema in
    let now = c.keep_name_in.new.types in
    let both = subst (λ (s : SchemaModel). names_unkept_of s now.items other ↔ names_unkept_of s rows.types.items other) c.schema.ensures (c.keep_name_in.ensures.others other differs) in
    subst (λ (m : RowsOfType). names_unkept (rows_seen (record rows { types = now })) other ↔ names_unkept m other) c.self.view_is
    ((λ un. by_marks schema rows.types.items other (both.0 (by_types schema now.items other un))), (λ un. by_marks schema now.items other (both.1 (by_types schema rows.types.items other un))))
