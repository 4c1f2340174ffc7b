use Rattle.std.proofs.Common.{Bool, [], ◌∷◌, arith, subst, sym, ◌∙◌}
use Rattle.collection_reader.specs.private.ItemRuns.{PassesTo}
use Rattle.collection_reader.proofs.ItemRunLemmas.{turn}
use Rattle.collection_reader.proofs.item_run.ends_after.Goals as goal

pub returns : goal.returns
returns c =
    let nested = c.depth_after-nested in
    subst (λ (t : Bool). PassesTo c.args.depth c.args.in_text (c.args.byte ∷ []) nested.result t) (sym c.text_after.ensures)
    (turn c.args.depth c.requires.some c.requires.few c.args.byte nested.result c.args.in_text (sym c.is_turn.ensures ∙ c.if-not-is_turn.false)
    (omega arith) (omega arith) nested.ensures)
