use Rattle.std.proofs.Common.{◌%◌, refl, subst, arith}
use Rattle.std.proofs.lemmas.Nat.{one_shl}
use Rattle.edm_rows.specs.private.RowTypes.{IsKindOf}
use Rattle.edm_rows.proofs.row_types.row_slot.Goals as goal

pub returns-clause-made : goal.returns-clause-made
returns-clause-made c =
    record {
      named = c.in-Some.ensures;
      behind = refl;
      points = refl;
      index_is = refl;
      bit = one_shl (c.args.index % 64) 64 (omega arith);
      order = c.requires.order;
      values = record {
        kind = c.kind_of-kind.result;
        is_kind = subst (λ o. IsKindOf o c.kind_of-kind.result) c.wanted_with.ensures c.kind_of-kind.ensures;
        item = refl;
        prim = refl;
        member_of = refl;
        sure = refl;
        task = c.task_as.ensures;
        nullable = c.is_nullable_as.ensures;
      };
    }

pub returns-clause-fresh : goal.returns-clause-fresh
returns-clause-fresh c = (refl, refl)
