use Rattle.std.proofs.Common.{◌<◌, ℕ, Bool, Option, [], arith, length, refl, subst}
use Rattle.row_explanation.specs.NodeReports.{HasFault, IsFaultBelow, IsFirstFault}
use Rattle.row_explanation.proofs.Faults.{comes_further, faulty_within}
use Rattle.row_explanation.proofs.evaluation_stop.stop_index.Goals as goal

pub down-init : goal.down-init
down-init c =
    let evaluation = c.args.evaluation.now in
    record {
      faulty = subst (λ (b : Bool). HasFault evaluation.entity.now evaluation.moment.now evaluation.filter.now.list 0 b) c.if-not-is_faulty.false c.in_ok-is_faulty.ensures;
      way = ([], refl);
    }

pub fault_below-requires : goal.fault_below-requires
fault_below-requires c =
    let evaluation = c.args.evaluation.now in
    record {
      is = c.requires.is;
      index = faulty_within evaluation.entity.now evaluation.moment.now evaluation.filter.now.list c.down.at c.down.invariant.faulty;
    }

pub down-preserved : goal.down-preserved
down-preserved c =
    let evaluation = c.args.evaluation.now in
    let below : IsFirstFault evaluation.entity.now evaluation.moment.now evaluation.filter.now.list c.down.at c.in-Ok-Some.child =
    subst (λ (found : Option ℕ). IsFaultBelow evaluation.entity.now evaluation.moment.now evaluation.filter.now.list c.down.at found) c.in-Ok-Some.field-0-is c.in-Ok-Some.ensures in
    record {
      faulty = below.faulty;
      way = comes_further evaluation.entity.now evaluation.moment.now evaluation.filter.now.list c.down.at c.in-Ok-Some.child c.down.invariant.way below;
    }

pub down-smaller : goal.down-smaller
down-smaller c =
    let evaluation = c.args.evaluation.now in
    let below : IsFirstFault evaluation.entity.now evaluation.moment.now evaluation.filter.now.list c.down.at c.in-Ok-Some.child =
    subst (λ (found : Option ℕ). IsFaultBelow evaluation.entity.now evaluation.moment.now evaluation.filter.now.list c.down.at found) c.in-Ok-Some.field-0-is c.in-Ok-Some.ensures in
    let within : c.in-Ok-Some.child < length evaluation.filter.now.list.nodes = faulty_within evaluation.entity.now evaluation.moment.now evaluation.filter.now.list c.in-Ok-Some.child below.faulty in
    let further : c.down.at < c.in-Ok-Some.child = below.after in
    omega arith

pub returns-in-Ok-None : goal.returns-in-Ok-None
returns-in-Ok-None c =
    let evaluation = c.args.evaluation.now in
    record {
      faulty = c.down.invariant.faulty;
      around = c.down.invariant.way.0;
      are_around = c.down.invariant.way.1;
      none_below = subst (λ (found : Option ℕ). IsFaultBelow evaluation.entity.now evaluation.moment.now evaluation.filter.now.list c.down.at found) c.in-Ok-None.field-0-is c.in-Ok-None.ensures;
    }
