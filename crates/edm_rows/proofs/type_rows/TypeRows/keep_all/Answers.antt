use Rattle.std.proofs.Common.{subst}
use Rattle.edm_rows.specs.RowsOfType.{IsSameButKept, RowsOfType}
use Rattle.edm_rows.specs.private.HeldRows.{rows_seen}
use Rattle.edm_rows.proofs.RowsStay.{all_but_kept, all_stay}
use Rattle.edm_rows.proofs.TypesKept.{by_types, none_passed}
use Rattle.edm_rows.proofs.type_rows.TypeRows.keep_all.Goals as goal

pub invariant_of-self : goal.invariant_of-self
invariant_of-self c = all_stay c.self.inside c.self.invariant c.keep_types.new.types c.keep_types.ensures.same

pub returns-clause-same : goal.returns-clause-same
returns-clause-same c =
    subst (λ (m : RowsOfType). IsSameButKept m (rows_seen (record c.self.inside { types = c.keep_types.new.types }))) c.self.view_is
    (all_but_kept c.self.inside c.self.invariant c.keep_types.new.types c.keep_types.ensures.same c.keep_types.ensures.sieves)

pub returns-clause-kept : goal.returns-clause-kept
returns-clause-kept c name un =
    let now = c.keep_types.new.types.items in
    none_passed _ now c.keep_types.ensures.kept name (by_types _ now name un)
