use Rattle.std.proofs.Common.{ℕ, List, IfOk, IfSome, subst}
use Rattle.collection_items.specs.ItemLines.{HasItemLines}
use Rattle.collection_items.proofs.collection_lines.text_lines.Goals as goal

pub returns : goal.returns
returns c =
    subst (λ (t : List ℕ). IfOk c.roomy_lines.result (λ found. IfSome found (λ lines. HasItemLines t lines.items))) c.new.ensures c.roomy_lines.ensures
