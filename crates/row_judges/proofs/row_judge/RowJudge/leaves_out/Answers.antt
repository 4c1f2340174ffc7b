use Rattle.std.proofs.Common.{subst}
use Rattle.edm_values.specs.Civil.{DateTime}
use Rattle.edm_values.specs.MomentParts.{IsFourDigitYear, IsOffset}
use Rattle.row_judges.proofs.RowLemmas.RowsInPlace.{left_out_said}
use Rattle.row_judges.proofs.row_judge.RowJudge.leaves_out.Goals as goal

pub returns : goal.returns
returns c =
    left_out_said c.args.self.now.checked.now c.args.self.now.moment.now c.args.rows.now c.requires.rows c.requires.whole c.typed_trees_end_once.ensures c.what_fits_has_its_type.ensures c.nodes-nodes.ensures.right
    (subst (λ (d : DateTime). IsFourDigitYear d.date.year) c.civil-civil.ensures.value c.civil-civil.ensures.year, subst IsOffset c.offset_minutes-offset.ensures.value c.offset_minutes-offset.ensures.within)
