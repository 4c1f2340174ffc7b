-- Bytes that are found in a text are characters that are found in it.
use Rattle.std.proofs.Common.{◌≡◌, ◌↔◌, ℕ, ◌+◌, ◌-◌, ◌≤◌, ◌<◌, Bool, true, false, IsTrue, Option, Some, None, MatchOption, List, ◌++◌, length, take, drop, arith, refl, sym, ap, subst, ◌∙◌}
use Rattle.std.proofs.Math.Seq.{drop-append_seam}
use Rattle.std.proofs.Math.Utf8.{encodes}
use Rattle.std.proofs.lemmas.List.{length-append, length-take, take-append-drop}
use Rattle.std.proofs.lemmas.Str.{encodes-append, encodes-chars, chars-append, length-le-encodes, IsUtf8-take}
use Rattle.std.proofs.lemmas.Grind.{common_steps}
use Rattle.std.specs.Bool.{MatchBool}
use Rattle.std.specs.List.{slice_range}
use Rattle.std.specs.Str.{IsCharBoundary, IsUtf8, chars}
use Rattle.std.specs.Str.Pattern.{FindsText, FindsTextPrefix, FindsTextSuffix, HasPrefixMatch, HasSuffixMatch, MatchBeginsAt}
use Rattle.odata_functions.specs.Texts.{HasEnd, HasPart, HasStart, StandsBehind}
use Rattle.odata_functions.specs.private.Cuts.{IsFoundAt}
use Rattle.odata_functions.proofs.texts.Characters.{bytes_split, front_of_front}

module _ (s t : List ℕ) (of_s : IsUtf8 s) (of_t : IsUtf8 t) where
  pub starts : (r : Bool) → MatchBool r (HasPrefixMatch (FindsTextPrefix t) s) (FindsTextPrefix t s None)
      → IsTrue r ↔ HasStart (chars s) (chars t)
  starts true (n, (count, split, inside), boundary) =
      (λ is. (chars (drop n s), ap chars split ∙ chars-append t (drop n s) of_t), λ has. refl)
  starts false none = (
    (λ is. cc),
    λ (rest, e). absurd (none (encodes rest) (bytes_split s (chars t) rest of_s e ∙ ap (λ (x : List ℕ). x ++ encodes rest) (encodes-chars t of_t))),
  )

  pub ends : (r : Bool) → MatchBool r (HasSuffixMatch (FindsTextSuffix t) s) (FindsTextSuffix t s None)
      → IsTrue r ↔ HasEnd (chars s) (chars t)
  ends true (n, (count, split, inside), within, boundary) = (
    (λ is. (chars (take (length s - n) s), ap chars split ∙ chars-append (take (length s - n) s) t (IsUtf8-take s (length s - n) of_s boundary))),
    λ has. refl,
  )
  ends false none = (
    (λ is. cc),
    λ (before, e). absurd (none (encodes before) (bytes_split s before (chars t) of_s e ∙ ap (λ (x : List ℕ). encodes before ++ x) (encodes-chars t of_t))),
  )

  -- characters that stand after others stand after the bytes of these
  spelled : (k : ℕ) (b : StandsBehind (chars s) (chars t) k) → s ≡ encodes b.before ++ (t ++ encodes b.behind)
  spelled k b =
      bytes_split s b.before (chars t ++ b.behind) of_s b.split
      ∙ ap (λ (x : List ℕ). encodes b.before ++ x) (encodes-append (chars t) b.behind ∙ ap (λ (x : List ℕ). x ++ encodes b.behind) (encodes-chars t of_t))

  behind_bytes : (k : ℕ) (b : StandsBehind (chars s) (chars t) k) → drop (length (encodes b.before)) s ≡ t ++ encodes b.behind
  behind_bytes k b = ap (drop (length (encodes b.before))) (spelled k b) ∙ drop-append_seam (encodes b.before) (t ++ encodes b.behind)

  within : (k : ℕ) (b : StandsBehind (chars s) (chars t) k) → length (encodes b.before) ≤ length s
  within k b =
      let whole = ap length (spelled k b) ∙ length-append (encodes b.before) (t ++ encodes b.behind) in
      omega arith

  -- fewer characters take fewer bytes
  fewer : (i : ℕ) → IsCharBoundary s i → (before rest : List ℕ) → chars s ≡ before ++ rest → length before < length (chars (take i s))
      → length (encodes before) < i
  fewer i boundary before rest e less =
      let of_front : IsUtf8 (take i s) = IsUtf8-take s i of_s boundary in
      let split : chars s ≡ chars (take i s) ++ chars (drop i s) = ap chars (sym (take-append-drop i s)) ∙ chars-append (take i s) (drop i s) of_front in
      let no_more : length before ≤ length (chars (take i s)) = omega arith in
      let front = front_of_front before rest (chars (take i s)) (chars (drop i s)) (sym e ∙ split) no_more in
      let characters : length (chars (take i s)) ≡ length before + length front.0 = ap length front.1 ∙ length-append before front.0 in
      let bytes : length (take i s) ≡ length (encodes before) + length (encodes front.0) =
      ap length (sym (encodes-chars (take i s) of_front) ∙ ap encodes front.1 ∙ encodes-append before front.0) ∙ length-append (encodes before) (encodes front.0) in
      let some : length front.0 ≤ length (encodes front.0) = length-le-encodes front.0 in
      let taken = length-take i s in
      omega arith

  pub found : (r : Option ℕ) → MatchOption r (FindsText t s None) (MatchBeginsAt (FindsText t) s)
      → MatchOption r (¬ HasPart (chars s) (chars t)) (IsFoundAt s t)
  found None none = λ (k, b). none (length (encodes b.before)) (within k b) (encodes b.behind) (behind_bytes k b)
  found (Some i) (j, (none_before, here), order, boundary, end) =
      let of_front : IsUtf8 (take i s) = IsUtf8-take s i of_s boundary in
      record {
        boundary = boundary;
        is_place = (
          record {
            before = chars (take i s);
            behind = chars (drop j s);
            split =
                ap chars (sym (take-append-drop i s)) ∙ chars-append (take i s) (drop i s) of_front
                ∙ ap (λ (x : List ℕ). chars (take i s) ++ x) (ap chars here.split ∙ chars-append t (drop j s) of_t);
            counted = refl;
          },
          λ k less b. none_before (length (encodes b.before))
              (fewer i boundary b.before (chars t ++ b.behind) b.split (subst (λ (n : ℕ). n < length (chars (take i s))) (sym b.counted) less))
              (encodes b.behind) (behind_bytes k b),
        );
      }

pub front_slice : (s : List ℕ) (n : ℕ) → slice_range s 0 n ≡ take n s
front_slice s n = grind (arith, common_steps)
