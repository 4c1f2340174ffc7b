use Rattle.std.proofs.Common.{◌≡◌, ap, sym, ◌∙◌, ◌==◌, false, List, [], ◌∷◌, length}
use Rattle.odata_syntax.specs.declared.parser.state.Frame.{Frame}
use Rattle.odata_syntax.specs.private.Machine.{finish_reduced}
use Rattle.odata_syntax.proofs.lists.Held.{not_whole_some}
use Rattle.odata_syntax.proofs.parser.state.State.end.Goals as goal

-- a list without frames is not said to have some
no_frames : (frames : List Frame) → (length frames == 0) ≡ false → frames ≡ [] → ⊥
no_frames [] some none = absurd (cc)
no_frames (frame ∷ frames) some none = absurd (cc)

pub returns-else-is_empty-clause-ended : goal.returns-else-is_empty-clause-ended
returns-else-is_empty-clause-ended c = λ texts.
    let frames = c.reduce.new.self.frames in
    let some : (length frames.items == 0) ≡ false = ap (λ n. n == 0) (sym frames.ok.0) ∙ sym c.is_empty.ensures ∙ c.if-is_empty.false in
    ap (λ r. finish_reduced r) (sym (c.in-Taken.ensures.reduced texts)) ∙ not_whole_some texts frames.items _ _ (no_frames frames.items some)
