-- Sixteen bytes of an item, up to one that may change where it ends.
use Rattle.std.proofs.Common.{◌≡◌, ℕ, ◌+◌, ◌-◌, ◌/◌, ◌^◌, ◌<◌, ◌≤◌, Bool, List, [], ◌∷◌, ◌++◌, length, map, take, drop, get_or, refl, sym, ap, ◌∙◌, subst, arith}
use Rattle.std.proofs.lemmas.List.{drop_more}
use Rattle.std.specs.Prelude.{slice_range}
use lib.Count.{count_trailing_zeros}
use lib.Lanes.{chunk, mask_l}
use Rattle.collection_reader.specs.private.ItemRuns.{PassesTo}
use Rattle.collection_reader.specs.private.PlainBytes.{ArePlain, is_stop}
use Rattle.collection_reader.proofs.ItemRunLemmas.{none, plain, then}
use Rattle.collection_reader.proofs.StopLemmas.{all_plain, mask_after, plain_before, run_within}
use Rattle.collection_reader.proofs.WrittenLemmas.{range-more}

-- The bytes from `from` up to `end` are passed, and the mask has those of the others that stop, up to the block's end.
pub record IsPassed (depth : ℕ) (in_text : Bool) (bytes : List ℕ) (from block end nested : ℕ) (is_text : Bool) (stops : ℕ) : Type 0 where
  pub order : (from ≤ end) × (end ≤ block) × (block ≡ from + 16)
  pub passes : PassesTo depth in_text (slice_range bytes from end) nested is_text
  pub mask : stops ≡ mask_l (map is_stop (slice_range bytes end block))

-- no bytes
pub nothing : (depth : ℕ) (in_text : Bool) (bytes : List ℕ) (from : ℕ) → 0 < depth → depth ≤ 125 → PassesTo depth in_text (slice_range bytes from from) depth in_text
nothing depth in_text bytes from some few =
    let no : from - from ≡ 0 = omega arith in
    subst (λ (k : ℕ). PassesTo depth in_text (take k (drop from bytes)) depth in_text) (sym no) (none depth in_text some few)

pub begins : (depth : ℕ) (in_text : Bool) (bytes : List ℕ) (from m : ℕ) → 0 < depth → depth ≤ 125 → m ≡ mask_l (map is_stop (chunk from 16 bytes))
    → IsPassed depth in_text bytes from (from + 16) from depth in_text m
begins depth in_text bytes from m some few is =
    let sixteen : 16 ≡ from + 16 - from = omega arith in
    record {
      order = (omega arith, omega arith, refl);
      passes = nothing depth in_text bytes from some few;
      mask = is ∙ ap (λ (k : ℕ). mask_l (map is_stop (take k (drop from bytes)))) sixteen;
    }

-- where nothing stops, or the first that does is past the block
plain_to : (depth : ℕ) (in_text : Bool) (bytes : List ℕ) (from block end nested : ℕ) (is_text : Bool) (m to : ℕ)
    → IsPassed depth in_text bytes from block end nested is_text m → end ≤ to → to ≤ length bytes → ArePlain bytes end to
    → PassesTo depth in_text (slice_range bytes from to) nested is_text
plain_to depth in_text bytes from block end nested is_text m to p after within are =
    let there : end + (to - end) ≡ to = omega (arith, after) in
    let piece = plain nested p.passes.deep_later p.passes.few_later bytes end (to - end) is_text (omega (arith, there, within))
    (subst (ArePlain bytes end) (sym there) are) in
    let whole : slice_range bytes from to ≡ slice_range bytes from end ++ slice_range bytes end to =
    ap (slice_range bytes from) (sym there) ∙ range-more bytes from end (to - end) p.order.0
    ∙ ap (λ (k : ℕ). slice_range bytes from end ++ slice_range bytes end k) there in
    subst (λ (t : List ℕ). PassesTo depth in_text t nested is_text) (sym whole)
    (then depth in_text (slice_range bytes from end) nested is_text (slice_range bytes end to) nested is_text p.passes
    (subst (λ (k : ℕ). PassesTo nested is_text (slice_range bytes end k) nested is_text) there piece))

pub whole : (depth : ℕ) (in_text : Bool) (bytes : List ℕ) (from block end nested : ℕ) (is_text : Bool) (m : ℕ)
    → IsPassed depth in_text bytes from block end nested is_text m → block ≤ length bytes → m ≡ 0
    → PassesTo depth in_text (slice_range bytes from block) nested is_text
whole depth in_text bytes from block end nested is_text m p within zero =
    let there : end + (block - end) ≡ block = omega (arith, p.order.1) in
    plain_to depth in_text bytes from block end nested is_text m block p p.order.1 within
    (subst (ArePlain bytes end) there (all_plain bytes end (block - end) m (omega (arith, there, within)) p.mask zero))

-- those before the first one that stops
pub stopped : (depth : ℕ) (in_text : Bool) (bytes : List ℕ) (from block end nested : ℕ) (is_text : Bool) (m at : ℕ)
    → IsPassed depth in_text bytes from block end nested is_text m → block ≤ length bytes → 0 < m → at ≡ end + count_trailing_zeros 64 m
    → (at ≤ block) × PassesTo depth in_text (slice_range bytes from at) nested is_text
stopped depth in_text bytes from block end nested is_text m at p within some is =
    let there : end + (block - end) ≡ block = omega (arith, p.order.1) in
    let room : end + (block - end) ≤ length bytes = omega (arith, there, within) in
    let few : block - end ≤ 64 = omega (arith, p.order.0, p.order.2) in
    let run = run_within bytes end (block - end) m room few p.mask some in
    let high : at ≤ block = omega (arith, is, run, there) in (
      high,
      plain_to depth in_text bytes from block end nested is_text m at p (omega (arith, is)) (omega (arith, high, within))
          (subst (ArePlain bytes end) (sym is) (plain_before bytes end (block - end) m room few p.mask some)),
    )

-- one more byte, that stops
pub turned : (depth : ℕ) (in_text : Bool) (bytes : List ℕ) (from block end nested : ℕ) (is_text : Bool) (m at later : ℕ) (later_text : Bool)
    → IsPassed depth in_text bytes from block end nested is_text m → block ≤ length bytes → 0 < m → at ≡ end + count_trailing_zeros 64 m → at < block
    → PassesTo nested is_text (get_or bytes at 0 ∷ []) later later_text
    → IsPassed depth in_text bytes from block (at + 1) later later_text (m / 2 ^ (count_trailing_zeros 64 m + 1))
turned depth in_text bytes from block end nested is_text m at later later_text p within some is before turn =
    let (high, passes) = stopped depth in_text bytes from block end nested is_text m at p within some is in
    let one : at + 1 - at ≡ 1 = omega arith in
    let last : slice_range bytes at (at + 1) ≡ get_or bytes at 0 ∷ [] =
    ap (λ (k : ℕ). take k (drop at bytes)) one ∙ ap (take 1) (drop_more bytes at 0 (omega (arith, before, within))) in
    let low : from ≤ at = omega (arith, is, p.order.0) in
    let parts : slice_range bytes from (at + 1) ≡ slice_range bytes from at ++ get_or bytes at 0 ∷ [] =
    range-more bytes from at 1 low ∙ ap (λ (t : List ℕ). slice_range bytes from at ++ t) last in
    let next : end + (count_trailing_zeros 64 m + 1) ≡ at + 1 = omega (arith, is) in
    record {
      order = (omega (arith, low), omega (arith, before), p.order.2);
      passes = subst (λ (t : List ℕ). PassesTo depth in_text t later later_text) (sym parts)
          (then depth in_text (slice_range bytes from at) nested is_text (get_or bytes at 0 ∷ []) later later_text passes turn);
      mask = mask_after bytes end (count_trailing_zeros 64 m + 1) block m (omega (arith, next, before)) p.mask
          ∙ ap (λ (k : ℕ). mask_l (map is_stop (slice_range bytes k block))) next;
    }

-- a block after others
pub further : (depth : ℕ) (in_text : Bool) (bytes : List ℕ) (from end nested : ℕ) (is_text : Bool) (to later : ℕ) (later_text : Bool)
    → from ≤ end → end ≤ to → PassesTo depth in_text (slice_range bytes from end) nested is_text → PassesTo nested is_text (slice_range bytes end to) later later_text
    → PassesTo depth in_text (slice_range bytes from to) later later_text
further depth in_text bytes from end nested is_text to later later_text low high p q =
    let there : end + (to - end) ≡ to = omega (arith, high) in
    let whole : slice_range bytes from to ≡ slice_range bytes from end ++ slice_range bytes end to =
    ap (slice_range bytes from) (sym there) ∙ range-more bytes from end (to - end) low
    ∙ ap (λ (k : ℕ). slice_range bytes from end ++ slice_range bytes end k) there in
    subst (λ (t : List ℕ). PassesTo depth in_text t later later_text) (sym whole)
    (then depth in_text (slice_range bytes from end) nested is_text (slice_range bytes end to) later later_text p q)
