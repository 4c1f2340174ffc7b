-- One byte of a document, by how far the scan has come.
use Rattle.std.proofs.Common.{◌≡◌, ◌≢◌, ℕ, [], refl, ap}
use Rattle.collection_reader.specs.declared.item_scan.Phase.{Phase}
use Rattle.collection_reader.specs.private.ItemScan.{back_step, front_step, item_step}
use Rattle.collection_reader.specs.private.ItemText.{Scanned, after_back, after_front, after_item, step, step_at}

pub at_front : (s : Scanned) (b : ℕ) → s.scan.phase ≡ Phase.Front → step s b ≡ after_front s b (front_step s.scan s.front b)
unfolding step
at_front s b is = ap (λ (p : Phase). step_at p s b) is

pub at_back : (s : Scanned) (b : ℕ) → s.scan.phase ≡ Phase.Back → step s b ≡ after_back s b (back_step s.scan b)
unfolding step
at_back s b is = ap (λ (p : Phase). step_at p s b) is

pub at_over : (s : Scanned) (b : ℕ) → s.scan.phase ≡ Phase.Over → step s b ≡ record { scanned = s; put = [] }
unfolding step
at_over s b is = ap (λ (p : Phase). step_at p s b) is

by_item : (p : Phase) (s : Scanned) (b : ℕ) → p ≢ Phase.Front → p ≢ Phase.Back → p ≢ Phase.Over → step_at p s b ≡ after_item s b (item_step s.scan b)
by_item Phase.Front s b front back over = absurd (front refl)
by_item Phase.Back s b front back over = absurd (back refl)
by_item Phase.Over s b front back over = absurd (over refl)
by_item Phase.Opened s b front back over = refl
by_item Phase.Comma s b front back over = refl
by_item Phase.Item s b front back over = refl
by_item Phase.Ended s b front back over = refl

pub at_item : (s : Scanned) (b : ℕ) → s.scan.phase ≢ Phase.Front → s.scan.phase ≢ Phase.Back → s.scan.phase ≢ Phase.Over
    → step s b ≡ after_item s b (item_step s.scan b)
unfolding step
at_item s b = by_item s.scan.phase s b
