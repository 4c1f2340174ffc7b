use Rattle.std.proofs.Common.{[], ◌∷◌, ◌++◌, Bool, sym, subst}
use Rattle.std.specs.Prelude.{OnOk}
use Rattle.line_filter.specs.private.HeldBack.{WritesBut}
use Rattle.line_filter.specs.private.Walk.{text_where}
use Rattle.line_filter.proofs.item_outcome.keep_where.Goals as goal

pub returns-then-is_kept-clause-ok : goal.returns-then-is_kept-clause-ok
returns-then-is_kept-clause-ok g c =
    let u = g.T.Writes.contents c.args.out.now in
    let v = g.T.Writes.contents c.keep_item.new.out in
    subst (λ (b : Bool). OnOk c.keep_item.result (WritesBut u v c.keep_item.new.held.items (c.args.held.now.items ++ text_where b (c.args.text.now ++ 10 ∷ [])))) (sym c.if-is_kept.true) c.keep_item.ensures.ok
