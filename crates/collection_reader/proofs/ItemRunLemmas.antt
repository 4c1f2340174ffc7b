-- Bytes of an item that are put as they are.
use Rattle.std.proofs.Common.{◌≡◌, ◌⊎◌, inl, inr, ⊎_elim, ℕ, zero, suc, ◌+◌, ◌-◌, ◌<◌, ◌≤◌, ◌==◌, ◌||◌, Bool, true, false, not, cond, List, [], ◌∷◌, ◌++◌, length, take, drop, get_or, refl, sym, ap, ◌∙◌, subst, arith, eqb-true, Option, None, Some}
use Rattle.std.proofs.lemmas.Bool.{cond_both, cond-false, false_from_ne_true, false≢true, leb-true, ne_eqb}
use Rattle.std.proofs.lemmas.List.{drop_more}
use Rattle.std.specs.Prelude.{nat_le, slice_range}
use Rattle.collection_reader.specs.declared.item_scan.Phase.{Phase}
use Rattle.collection_reader.specs.declared.item_scan.Scan.{Scan}
use Rattle.collection_reader.specs.declared.kind.Kind.{Kind}
use Rattle.collection_reader.specs.declared.nest.Mode.{Mode}
use Rattle.collection_reader.specs.declared.nest.Nest.{Nest}
use Rattle.collection_reader.specs.private.ItemRuns.{PassesTo, depth_after, is_bracket, is_turn, mode_of, text_after, within_item}
use Rattle.collection_reader.specs.private.ItemText.{Moved, Scanned, after_item, step, steps}
use Rattle.collection_reader.specs.private.ItemScan.{between_step, go_on_to, is_at, item_step_of, within_step}
use Rattle.collection_reader.specs.private.Kinds.{kind_of}
use Rattle.collection_reader.specs.private.PlainBytes.{ArePlain, is_stop}
use Rattle.collection_reader.proofs.StepLemmas.{steps-append, steps-one}
use Rattle.collection_reader.proofs.WrittenLemmas.{range-more}

-- a kind that changes nothing within an item
abbrev IsCalm : Kind → Type 0
IsCalm Kind.Comma = Unit {0}
IsCalm Kind.Colon = Unit {0}
IsCalm Kind.Blank = Unit {0}
IsCalm Kind.Other = Unit {0}
IsCalm _ = ⊥

no_test : (x y : Bool) → (x || y) ≡ false → (x ≡ false) × (y ≡ false)
no_test true y is = absurd (cc)
no_test false y is = (refl, is)

not_at : (b k : ℕ) → is_stop b ≡ false → (b == k) ≡ true → is_stop k ≡ true → ⊥
not_at b k calm is stops = false≢true (sym calm ∙ subst (λ (x : ℕ). is_stop x ≡ true) (sym (eqb-true b k is)) stops)

either_of : (x y : Bool) → (x || y) ≡ true → (x ≡ true) ⊎ (y ≡ true)
either_of true y is = inl refl
either_of false y is = inr is

no_feed : (b : ℕ) → is_stop b ≡ false → (b == 10 || b == 13) ≡ true → ⊥
no_feed b calm is = ⊎_elim (λ e. not_at b 10 calm e refl) (λ e. not_at b 13 calm e refl) (either_of (b == 10) (b == 13) is)

calm_kind : (b : ℕ) → is_stop b ≡ false → IsCalm (kind_of b)
unfolding kind_of
calm_kind b calm =
    cond_both (b == 34) _ _ IsCalm (λ e. not_at b 34 calm e refl) (λ _.
    cond_both (b == 92) _ _ IsCalm (λ e. not_at b 92 calm e refl) (λ _.
    cond_both (b == 123) _ _ IsCalm (λ e. not_at b 123 calm e refl) (λ _.
    cond_both (b == 91) _ _ IsCalm (λ e. not_at b 91 calm e refl) (λ _.
    cond_both (b == 125) _ _ IsCalm (λ e. not_at b 125 calm e refl) (λ _.
    cond_both (b == 93) _ _ IsCalm (λ e. not_at b 93 calm e refl) (λ _.
    cond_both (b == 44) _ _ IsCalm (λ e. tt) (λ _.
    cond_both (b == 58) _ _ IsCalm (λ e. tt) (λ _.
    cond_both (b == 32 || b == 9) _ _ IsCalm (λ e. tt) (λ _.
    cond_both (b == 10 || b == 13) _ _ IsCalm (λ e. no_feed b calm e) (λ e. tt))))))))))

-- what one byte does within an item
abbrev StepsTo : ℕ → Bool → ℕ → ℕ → Bool → Type 0
StepsTo depth in_text b later later_in_text =
    (s : Scanned) → step (within_item s depth in_text) b ≡ record { scanned = within_item s later later_in_text; put = b ∷ [] }

one : (depth : ℕ) (in_text : Bool) (b later : ℕ) (later_in_text : Bool) → 0 < later → later ≤ 125 → StepsTo depth in_text b later later_in_text
    → PassesTo depth in_text (b ∷ []) later later_in_text
one depth in_text b later later_in_text deep few steps_to = record {
  deep_later = deep;
  few_later = few;
  are_put = λ s. steps-one (within_item s depth in_text) b ∙ steps_to s;
}

pub none : (depth : ℕ) (in_text : Bool) → 0 < depth → depth ≤ 125 → PassesTo depth in_text [] depth in_text
unfolding steps
none depth in_text deep few = record { deep_later = deep; few_later = few; are_put = λ s. refl }

pub then : (depth : ℕ) (in_text : Bool) (xs : List ℕ) (d : ℕ) (t : Bool) (ys : List ℕ) (later : ℕ) (later_in_text : Bool)
    → PassesTo depth in_text xs d t → PassesTo d t ys later later_in_text → PassesTo depth in_text (xs ++ ys) later later_in_text
then depth in_text xs d t ys later later_in_text p q = record {
  deep_later = q.deep_later;
  few_later = q.few_later;
  are_put = λ s.
      steps-append (within_item s depth in_text) xs ys
      ∙ ap (λ (m : Moved). record { scanned = (steps m.scanned ys).scanned; put = m.put ++ (steps m.scanned ys).put }) (p.are_put s)
      ∙ ap (λ (m : Moved). record { scanned = m.scanned; put = xs ++ m.put }) (q.are_put s);
}

module _ (depth : ℕ) (some : 0 < depth) where
  not_zero : (depth == 0) ≡ false
  not_zero = ne_eqb depth 0 (λ e. absurd (omega arith))

  -- the bytes do not end between the items
  away : (in_text : Bool) → is_at 0 depth (mode_of in_text) ≡ false
  away true = refl
  away false = not_zero

  -- the step there
  within : (s : Scanned) (in_text : Bool) (b : ℕ) (kind : Kind) (moved : Moved)
      → after_item (within_item s depth in_text) b (within_step (within_item s depth in_text).scan b kind) ≡ moved
      → after_item (within_item s depth in_text) b (item_step_of (within_item s depth in_text).scan b kind) ≡ moved
  within s in_text b kind moved is =
      ap (after_item (within_item s depth in_text) b)
      (cond-false (is_at 0 depth (mode_of in_text)) (between_step (within_item s depth in_text).scan b kind) (within_step (within_item s depth in_text).scan b kind) (away in_text))
      ∙ is

  calm_step : (kind : Kind) → IsCalm kind → (in_text : Bool) (s : Scanned) (b : ℕ)
      → after_item (within_item s depth in_text) b (item_step_of (within_item s depth in_text).scan b kind)
      ≡ record { scanned = within_item s depth in_text; put = b ∷ [] }
  calm_step Kind.Comma calm true s b = within s true b Kind.Comma _ refl
  calm_step Kind.Comma calm false s b = within s false b Kind.Comma _ refl
  calm_step Kind.Colon calm true s b = within s true b Kind.Colon _ refl
  calm_step Kind.Colon calm false s b = within s false b Kind.Colon _ refl
  calm_step Kind.Blank calm true s b = within s true b Kind.Blank _ refl
  calm_step Kind.Blank calm false s b = within s false b Kind.Blank _ refl
  calm_step Kind.Other calm true s b = within s true b Kind.Other _ refl
  calm_step Kind.Other calm false s b = within s false b Kind.Other _ refl
  calm_step Kind.Quote calm in_text s b = absurd calm
  calm_step Kind.Backslash calm in_text s b = absurd calm
  calm_step Kind.Brace calm in_text s b = absurd calm
  calm_step Kind.Bracket calm in_text s b = absurd calm
  calm_step Kind.BraceEnd calm in_text s b = absurd calm
  calm_step Kind.BracketEnd calm in_text s b = absurd calm
  calm_step Kind.Feed calm in_text s b = absurd calm

  calm_byte : (b : ℕ) (in_text : Bool) → is_stop b ≡ false → StepsTo depth in_text b depth in_text
  unfolding step
  calm_byte b in_text calm s = calm_step (kind_of b) (calm_kind b calm) in_text s b

  -- plain bytes
  pub plain : depth ≤ 125 → (bytes : List ℕ) (from n : ℕ) (in_text : Bool) → from + n ≤ length bytes → ArePlain bytes from (from + n)
      → PassesTo depth in_text (slice_range bytes from (from + n)) depth in_text
  plain few bytes from zero in_text within_all are =
      let short : from + 0 - from ≡ 0 = omega arith in
      subst (λ (k : ℕ). PassesTo depth in_text (take k (drop from bytes)) depth in_text) (sym short) (none depth in_text some few)
  plain few bytes from (suc n) in_text within_all are =
      let last = get_or bytes (from + n) 0 in
      let before = plain few bytes from n in_text (omega (arith, within_all)) (λ k low high. are k low (omega (arith, high))) in
      let calm : is_stop last ≡ false = are (from + n) (omega arith) (omega arith) in
      let more : from + suc n ≡ (from + n) + 1 = omega arith in
      let short : (from + n) + 1 - (from + n) ≡ 1 = omega arith in
      let end : slice_range bytes (from + n) ((from + n) + 1) ≡ last ∷ [] =
      ap (λ (k : ℕ). take k (drop (from + n) bytes)) short ∙ ap (take 1) (drop_more bytes (from + n) 0 (omega (arith, within_all))) in
      let whole : slice_range bytes from (from + suc n) ≡ slice_range bytes from (from + n) ++ last ∷ [] =
      ap (slice_range bytes from) more ∙ range-more bytes from (from + n) 1 (omega arith)
      ∙ ap (λ (t : List ℕ). slice_range bytes from (from + n) ++ t) end in
      subst (λ (t : List ℕ). PassesTo depth in_text t depth in_text) (sym whole)
      (then depth in_text (slice_range bytes from (from + n)) depth in_text (last ∷ []) depth in_text before
      (one depth in_text last depth in_text some few (calm_byte last in_text calm)))

  quote_step : (in_text : Bool) → StepsTo depth in_text 34 depth (not in_text)
  unfolding step kind_of
  quote_step true s = within s true 34 Kind.Quote _ refl
  quote_step false s = within s false 34 Kind.Quote _ refl

  -- in a text a bracket changes nothing
  text_step_123 : StepsTo depth true 123 depth true
  unfolding step kind_of
  text_step_123 s = within s true 123 Kind.Brace _ refl

  text_step_91 : StepsTo depth true 91 depth true
  unfolding step kind_of
  text_step_91 s = within s true 91 Kind.Bracket _ refl

  text_step_125 : StepsTo depth true 125 depth true
  unfolding step kind_of
  text_step_125 s = within s true 125 Kind.BraceEnd _ refl

  text_step_93 : StepsTo depth true 93 depth true
  unfolding step kind_of
  text_step_93 s = within s true 93 Kind.BracketEnd _ refl

  -- outside texts one opens, where that is not too deep, and one closes
  abbrev StepsWith : Scanned → ℕ → Option Nest → ℕ → Type 0
  StepsWith s b next later =
      after_item (within_item s depth false) b (go_on_to (within_item s depth false).scan b next)
      ≡ record { scanned = within_item s later false; put = b ∷ [] }

  opened_nest : (s : Scanned) (b : ℕ) → nat_le 125 depth ≡ false
      → StepsWith s b (cond (nat_le 125 depth) None (Some (record { depth = depth + 1; mode = Mode.Outside }))) (depth + 1)
  opened_nest s b few =
      ap (λ (o : Option Nest). after_item (within_item s depth false) b (go_on_to (within_item s depth false).scan b o))
      (cond-false (nat_le 125 depth) None (Some (record { depth = depth + 1; mode = Mode.Outside })) few)

  open_step_123 : nat_le 125 depth ≡ false → StepsTo depth false 123 (depth + 1) false
  unfolding step kind_of
  open_step_123 few s = within s false 123 Kind.Brace _ (opened_nest s 123 few)

  open_step_91 : nat_le 125 depth ≡ false → StepsTo depth false 91 (depth + 1) false
  unfolding step kind_of
  open_step_91 few s = within s false 91 Kind.Bracket _ (opened_nest s 91 few)

  closed_nest : (s : Scanned) (b : ℕ) → StepsWith s b (cond (depth == 0) None (Some (record { depth = depth - 1; mode = Mode.Outside }))) (depth - 1)
  closed_nest s b =
      ap (λ (o : Option Nest). after_item (within_item s depth false) b (go_on_to (within_item s depth false).scan b o))
      (cond-false (depth == 0) None (Some (record { depth = depth - 1; mode = Mode.Outside })) not_zero)

  close_step_125 : StepsTo depth false 125 (depth - 1) false
  unfolding step kind_of
  close_step_125 s = within s false 125 Kind.BraceEnd _ (closed_nest s 125)

  close_step_93 : StepsTo depth false 93 (depth - 1) false
  unfolding step kind_of
  close_step_93 s = within s false 93 Kind.BracketEnd _ (closed_nest s 93)

  -- ---- a byte that is no plain one

  not_too_deep : depth + 1 ≤ 125 → nat_le 125 depth ≡ false
  not_too_deep few = false_from_ne_true (nat_le 125 depth) (λ e. let high = leb-true 125 depth e in absurd (omega (arith, high)))

  -- what is passed by such a byte
  abbrev Turns : ℕ → ℕ → Bool → Type 0
  Turns b nested in_text = nested ≡ depth_after depth in_text b → PassesTo depth in_text (b ∷ []) nested (text_after in_text b)

  at_quote : depth ≤ 125 → (nested : ℕ) (in_text : Bool) → Turns 34 nested in_text
  at_quote few nested true is = subst (λ (n : ℕ). PassesTo depth true (34 ∷ []) n false) (sym is) (one depth true 34 depth false some few (quote_step true))
  at_quote few nested false is = subst (λ (n : ℕ). PassesTo depth false (34 ∷ []) n true) (sym is) (one depth false 34 depth true some few (quote_step false))

  at_123 : depth ≤ 125 → (nested : ℕ) (in_text : Bool) → nested ≤ 125 → Turns 123 nested in_text
  at_123 few nested true most is = subst (λ (n : ℕ). PassesTo depth true (123 ∷ []) n true) (sym is) (one depth true 123 depth true some few text_step_123)
  at_123 few nested false most is =
      let high : depth + 1 ≤ 125 = omega (arith, is, most) in
      subst (λ (n : ℕ). PassesTo depth false (123 ∷ []) n false) (sym is) (one depth false 123 (depth + 1) false (omega arith) high (open_step_123 (not_too_deep high)))

  at_91 : depth ≤ 125 → (nested : ℕ) (in_text : Bool) → nested ≤ 125 → Turns 91 nested in_text
  at_91 few nested true most is = subst (λ (n : ℕ). PassesTo depth true (91 ∷ []) n true) (sym is) (one depth true 91 depth true some few text_step_91)
  at_91 few nested false most is =
      let high : depth + 1 ≤ 125 = omega (arith, is, most) in
      subst (λ (n : ℕ). PassesTo depth false (91 ∷ []) n false) (sym is) (one depth false 91 (depth + 1) false (omega arith) high (open_step_91 (not_too_deep high)))

  at_125 : depth ≤ 125 → (nested : ℕ) (in_text : Bool) → 0 < nested → Turns 125 nested in_text
  at_125 few nested true left is = subst (λ (n : ℕ). PassesTo depth true (125 ∷ []) n true) (sym is) (one depth true 125 depth true some few text_step_125)
  at_125 few nested false left is =
      subst (λ (n : ℕ). PassesTo depth false (125 ∷ []) n false) (sym is)
      (one depth false 125 (depth - 1) false (omega (arith, is, left)) (omega (arith, few)) close_step_125)

  at_93 : depth ≤ 125 → (nested : ℕ) (in_text : Bool) → 0 < nested → Turns 93 nested in_text
  at_93 few nested true left is = subst (λ (n : ℕ). PassesTo depth true (93 ∷ []) n true) (sym is) (one depth true 93 depth true some few text_step_93)
  at_93 few nested false left is =
      subst (λ (n : ℕ). PassesTo depth false (93 ∷ []) n false) (sym is)
      (one depth false 93 (depth - 1) false (omega (arith, is, left)) (omega (arith, few)) close_step_93)

  bracket_turns : depth ≤ 125 → (b nested : ℕ) (in_text : Bool) → is_bracket b ≡ true → 0 < nested → nested ≤ 125 → Turns b nested in_text
  bracket_turns few b nested in_text is left most =
      let turns = λ (k : ℕ) (e : (b == k) ≡ true) (t : Turns k nested in_text). subst (λ (x : ℕ). Turns x nested in_text) (sym (eqb-true b k e)) t in
      ⊎_elim (λ three.
      ⊎_elim (λ two.
      ⊎_elim (λ e. turns 123 e (at_123 few nested in_text most)) (λ e. turns 91 e (at_91 few nested in_text most))
      (either_of (b == 123) (b == 91) two))
      (λ e. turns 125 e (at_125 few nested in_text left)) (either_of (b == 123 || b == 91) (b == 125) three))
      (λ e. turns 93 e (at_93 few nested in_text left)) (either_of (b == 123 || b == 91 || b == 125) (b == 93) is)

  -- a quote, a bracket or a brace
  pub turn : depth ≤ 125 → (b nested : ℕ) (in_text : Bool) → is_turn b ≡ true → 0 < nested → nested ≤ 125
      → nested ≡ depth_after depth in_text b → PassesTo depth in_text (b ∷ []) nested (text_after in_text b)
  turn few b nested in_text is left most =
      ⊎_elim (λ e. subst (λ (x : ℕ). Turns x nested in_text) (sym (eqb-true b 34 e)) (at_quote few nested in_text))
      (λ e. bracket_turns few b nested in_text e left most) (either_of (b == 34) (is_bracket b) is)

-- ---- from where a scan stands

nothing : (bytes : List ℕ) (from : ℕ) → slice_range bytes from from ≡ []
nothing bytes from = let no : from - from ≡ 0 = omega arith in ap (λ (k : ℕ). take k (drop from bytes)) no

-- no bytes are passed
pub none_passed : (s : Scanned) (bytes : List ℕ) (from : ℕ)
    → steps s (slice_range bytes from from) ≡ record { scanned = s; put = slice_range bytes from from }
unfolding steps
none_passed s bytes from =
    subst (λ (t : List ℕ). steps s t ≡ record { scanned = s; put = t }) (sym (nothing bytes from)) refl

same_scan : (scan : Scan) (depth : ℕ) (in_text : Bool) → scan.phase ≡ Phase.Item → scan.nest.depth ≡ depth → scan.nest.mode ≡ mode_of in_text
    → scan ≡ record { phase = Phase.Item; nest = record { depth = depth; mode = mode_of in_text }; name = scan.name; is_named = scan.is_named }
same_scan scan depth in_text phase deep mode =
    ap (λ (p : Phase). record { phase = p; nest = scan.nest; name = scan.name; is_named = scan.is_named }) phase
    ∙ ap (λ (d : ℕ). record { phase = Phase.Item; nest = record { depth = d; mode = scan.nest.mode }; name = scan.name; is_named = scan.is_named }) deep
    ∙ ap (λ (m : Mode). record { phase = Phase.Item; nest = record { depth = depth; mode = m }; name = scan.name; is_named = scan.is_named }) mode

-- a scan within an item's brackets
at_item : (s : Scanned) (depth : ℕ) (in_text : Bool) → s.scan.phase ≡ Phase.Item → s.scan.nest.depth ≡ depth → s.scan.nest.mode ≡ mode_of in_text
    → s ≡ within_item s depth in_text
at_item s depth in_text phase deep mode =
    ap (λ (x : Scan). record { scan = x; front = s.front; back = s.back }) (same_scan s.scan depth in_text phase deep mode)

-- what is passed from there
pub passed_within : (s t : Scanned) (in_text : Bool) (bytes : List ℕ) (later : ℕ) (later_in_text : Bool)
    → s.scan.phase ≡ Phase.Item → s.scan.nest.mode ≡ mode_of in_text → PassesTo s.scan.nest.depth in_text bytes later later_in_text
    → t ≡ within_item s later later_in_text → steps s bytes ≡ record { scanned = t; put = bytes }
passed_within s t in_text bytes later later_in_text phase mode passes is =
    ap (λ (x : Scanned). steps x bytes) (at_item s s.scan.nest.depth in_text phase refl mode) ∙ passes.are_put s
    ∙ ap (λ (x : Scanned). record { scanned = x; put = bytes }) (sym is)

-- a scan whose nest is set
abbrev pub scanned_at : Scanned → ℕ → Mode → Scanned
scanned_at s depth mode = record {
  scan = record { phase = s.scan.phase; nest = record { depth = depth; mode = mode }; name = s.scan.name; is_named = s.scan.is_named };
  front = s.front;
  back = s.back;
}

-- the scan after that, where the code sets how many are open and the mode
pub moved_within : (s : Scanned) (later : ℕ) (later_in_text : Bool) (mode : Mode) → s.scan.phase ≡ Phase.Item → mode ≡ mode_of later_in_text
    → scanned_at s later mode ≡ within_item s later later_in_text
moved_within s later later_in_text mode phase is =
    ap (λ (p : Phase). record { scan = record { phase = p; nest = record { depth = later; mode = mode }; name = s.scan.name; is_named = s.scan.is_named }; front = s.front; back = s.back }) phase
    ∙ ap (λ (m : Mode). record { scan = record { phase = Phase.Item; nest = record { depth = later; mode = m }; name = s.scan.name; is_named = s.scan.is_named }; front = s.front; back = s.back }) is
