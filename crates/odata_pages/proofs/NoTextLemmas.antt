-- Lines with a byte that no text in UTF-8 has.
use Rattle.std.proofs.Common.{◌≡◌, ◌⊎◌, inl, inr, ⊎_elim, ℕ, ◌+◌, ◌/◌, ◌<◌, ◌==◌, Bool, true, List, [], ◌∷◌, ◌++◌, refl, sym, ap, subst, arith, ltb}
use Rattle.std.proofs.lemmas.Bool.{cond_both, ltb-true, and_parts}
use Rattle.std.proofs.lemmas.List.Elements.{All-head, All-tail}
use Rattle.std.specs.Prelude.{All, IsUtf8, map}
use lib.Utf8.{encode, encodes, next, scalar, scalar_cases, scalars}
use Rattle.edm_values.specs.MomentParts.{MomentParts}
use Rattle.line_filter.specs.declared.judge.Judgment.{Judgment}
use Rattle.line_filter.specs.declared.tally.Tally.{Tally}
use Rattle.line_filter.specs.Kept.{Filters, IsFaultless, LineClass, SiftedItem}
use Rattle.line_filter.specs.LineItems.{IsFoundOf}
use Rattle.line_filter.specs.Lines.{IsBlank, is_space, lines_of, with_first}
use Rattle.odata_checked_filter.specs.Filter.{Filter}
use Rattle.row_judges.specs.RowJudgment.{JudgesJson, JudgesRow, rows_of}
use Rattle.row_judges.specs.declared.bad_row.BadRow.{BadRow}

-- the byte is not that one
abbrev IsOther : ℕ → Type 0
IsOther b = b < 255

-- a list by recursion
abbrev AreOther : List ℕ → Type 0
AreOther [] = Unit {0}
AreOther (b ∷ bytes) = IsOther b × AreOther bytes

others-append : (xs ys : List ℕ) → AreOther xs → AreOther ys → AreOther (xs ++ ys)
others-append [] ys are more = more
others-append (x ∷ xs) ys are more = (are.0, others-append xs ys are.1 more)

next_other : (bits : ℕ) → IsOther (next bits)
next_other bits = omega arith

scalar_below : (c : ℕ) → scalar c ≡ true → c < 1114112
scalar_below c is = ⊎_elim (λ low. omega (arith, low)) (λ high. high.1) (scalar_cases c is)

encode_other : (c : ℕ) → scalar c ≡ true → AreOther (encode c)
unfolding encode
encode_other c is =
    let most = scalar_below c is in
    cond_both (ltb c 128) _ _ AreOther (λ e. (let low = ltb-true c 128 e in omega (arith, low), tt)) (λ _.
    cond_both (ltb c 2048) _ _ AreOther (λ e. (let low = ltb-true c 2048 e in omega (arith, low), (next_other c, tt))) (λ _.
    cond_both (ltb c 65536) _ _ AreOther (λ e. (let low = ltb-true c 65536 e in omega (arith, low), (next_other (c / 64), (next_other c, tt))))
    (λ _. (omega (arith, most), (next_other (c / 4096), (next_other (c / 64), (next_other c, tt)))))))

encodes_other : (cs : List ℕ) → scalars cs ≡ true → AreOther (encodes cs)
encodes_other [] is = tt
encodes_other (c ∷ cs) is =
    let parts = and_parts (scalar c) (scalars cs) is in
    others-append (encode c) (encodes cs) (encode_other c parts.0) (encodes_other cs parts.1)

has_other : (before after : List ℕ) → AreOther (before ++ 255 ∷ after) → ⊥
has_other [] after are = let low : 255 < 255 = are.0 in absurd (omega arith)
has_other (b ∷ before) after are = has_other before after are.1

-- no text in UTF-8 has the byte
pub no_utf8 : (before after : List ℕ) → IsUtf8 (before ++ 255 ∷ after) → ⊥
no_utf8 before after utf8 = has_other before after (subst AreOther utf8.1.1 (encodes_other utf8.0 utf8.1.0))

-- a line with the byte
record HasByte (line : List ℕ) : Type 0 where
  pub before : List ℕ
  pub after : List ℕ
  pub is : line ≡ before ++ 255 ∷ after

abbrev SomeHas : List (List ℕ) → Type 0
SomeHas [] = ⊥
SomeHas (line ∷ lines) = HasByte line ⊎ SomeHas lines

has_first : (b : ℕ) (lines : List (List ℕ)) → SomeHas lines → SomeHas (with_first b lines)
has_first b [] has = absurd has
has_first b (line ∷ lines) (inl has) = inl (record { before = b ∷ has.before; after = has.after; is = ap (λ (t : List ℕ). b ∷ t) has.is })
has_first b (line ∷ lines) (inr has) = inr has

first_has : (lines : List (List ℕ)) → SomeHas (with_first 255 lines)
first_has [] = inl (record { before = []; after = []; is = refl })
first_has (line ∷ lines) = inl (record { before = []; after = line; is = refl })

-- one of the lines has the byte, where the text has
line_has : (before after : List ℕ) → SomeHas (lines_of (before ++ 255 ∷ after))
line_has [] after = first_has (lines_of after)
line_has (b ∷ before) after =
    cond_both (b == 10) ([] ∷ lines_of (before ++ 255 ∷ after)) (with_first b (lines_of (before ++ 255 ∷ after))) SomeHas
    (λ _. inr (line_has before after)) (λ _. has_first b _ (line_has before after))

not_blank : (before after : List ℕ) → IsBlank (before ++ 255 ∷ after) → ⊥
not_blank [] after blank = let is : is_space 255 ≡ true = All-head (λ (x : ℕ). is_space x ≡ true) 255 after blank in absurd (cc)
not_blank (b ∷ before) after blank = not_blank before after (All-tail (λ (x : ℕ). is_space x ≡ true) b (before ++ 255 ∷ after) blank)

module _ (filter : Filter) (now : MomentParts) where
  judged_utf8 : (line : List ℕ) (judgment : Judgment BadRow) → JudgesJson filter now line judgment → HasByte line → ⊥
  judged_utf8 line judgment judged has = no_utf8 has.before has.after (subst IsUtf8 has.is judged.is_json.0)

  -- such a line is at fault
  at_fault : (line : List ℕ) (found : LineClass BadRow) → IsFoundOf (JudgesRow filter now) line found → IsFaultless found → HasByte line → ⊥
  at_fault line LineClass.too_long is faultless has = faultless
  at_fault line LineClass.passed_over is faultless has = not_blank has.before has.after (subst IsBlank has.is is.1)
  at_fault line (LineClass.judged Judgment.Kept) is faultless has = judged_utf8 line Judgment.Kept is.2 has
  at_fault line (LineClass.judged Judgment.LeftOut) is faultless has = judged_utf8 line Judgment.LeftOut is.2 has
  at_fault line (LineClass.judged (Judgment.Fault fault)) is faultless has = faultless

  none_has : (all : List (SiftedItem (List ℕ) BadRow)) → All (λ s. IsFoundOf (JudgesRow filter now) s.item s.line_class × IsFaultless s.line_class) all
      → SomeHas (map (λ s. s.item) all) → ⊥
  none_has [] found has = has
  none_has (s ∷ all) found (inl has) =
      let here = All-head (λ (s : SiftedItem (List ℕ) BadRow). IsFoundOf (JudgesRow filter now) s.item s.line_class × IsFaultless s.line_class) s all found in
      at_fault s.item s.line_class here.0 here.1 has
  none_has (s ∷ all) found (inr has) =
      none_has all (All-tail (λ (s : SiftedItem (List ℕ) BadRow). IsFoundOf (JudgesRow filter now) s.item s.line_class × IsFaultless s.line_class) s all found) has

  -- rows of such a text are not all without fault
  pub no_rows : (before after text : List ℕ) (tally : Tally) → Filters (rows_of filter now (before ++ 255 ∷ after)) text tally → ⊥
  no_rows before after text tally passes =
      none_has passes.all passes.found (subst SomeHas (sym passes.in_order) (line_has before after))
