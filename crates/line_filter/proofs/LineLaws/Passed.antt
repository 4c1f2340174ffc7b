-- What is kept where lines at fault are passed over.
use Rattle.std.proofs.Common.{◌≡◌, ℕ, ◌+◌, Bool, cond, List, [], ◌∷◌, ◌++◌, Option, None, Some, Result, Ok, Err, inl, inr, refl, ap, ◌∙◌, subst, sym}
use Rattle.std.specs.Prelude.{All, IfOk, IfSome, count_by, map}
use Rattle.std.proofs.lemmas.Bool.{cases_Bool}
use Rattle.std.proofs.lemmas.List.Elements.{All-cons, All-head, All-nil, All-tail}
use Rattle.std.proofs.lemmas.List.Sums.{sum_by-cons}
use Rattle.line_filter.specs.Growth.{Writes}
use Rattle.line_filter.specs.Kept.{Filters, IsFaultless, LineClass, SiftedItem, is_kept, is_row, kept_text}
use Rattle.line_filter.specs.LineItems.{IsFoundOf, LineJudge, SaysTheSame, lines}
use Rattle.line_filter.specs.Lines.{text_of_line}
use Rattle.line_filter.specs.PastFaults.{KeepsPastFaults, past_faults}
use Rattle.line_filter.specs.private.Passing.{IsPassedOn}
use Rattle.line_filter.specs.declared.judge.Judgment.{Judgment}
use Rattle.line_filter.specs.declared.run_stop.RunStop.{RunStop}
use Rattle.line_filter.specs.declared.tally.Tally.{Tally}

-- judges that say the same say the same past faults
pub past_faults-same : {F : Type 0} (old new : LineJudge F) → SaysTheSame old new → SaysTheSame (past_faults old) (past_faults new)
past_faults-same old new same line Judgment.Kept = same line Judgment.Kept
past_faults-same old new same line (Judgment.Fault fault) = same line (Judgment.Fault fault)
past_faults-same old new same line Judgment.LeftOut = (
  λ says. elim says [
    | inl out ↦ inl ((same line Judgment.LeftOut).0 out)
    | inr (fault, at) ↦ inr (fault, (same line (Judgment.Fault fault)).0 at)
  ],
  λ says. elim says [
    | inl out ↦ inl ((same line Judgment.LeftOut).1 out)
    | inr (fault, at) ↦ inr (fault, (same line (Judgment.Fault fault)).1 at)
  ],
)

-- a judgment that stays is said past faults too
past_said : {F : Type 0} (judge : LineJudge F) (line : List ℕ) (judgment : Judgment F) → judge line judgment → past_faults judge line judgment
past_said judge line Judgment.Kept says = says
past_said judge line Judgment.LeftOut says = inl says
past_said judge line (Judgment.Fault fault) says = says

-- and so is what becomes of one
pub past_of : {F : Type 0} (judge : LineJudge F) (line : List ℕ) (judgment result : Judgment F) → judge line judgment → IsPassedOn judgment result → past_faults judge line result
past_of judge line judgment result says (inl same) = subst (λ j. past_faults judge line j) (sym same) (past_said judge line judgment says)
past_of judge line judgment result says (inr (is, (fault, at))) =
    subst (λ j. past_faults judge line j) (sym is) (inr (fault, subst (λ j. judge line j) at says))

module _ {F : Type 0} (judge : LineJudge F) where
  abbrev Sifted : Type 0
  Sifted = SiftedItem (List ℕ) F

  -- what the judge itself says of a line, kept and counted alike
  record Original (s : Sifted) : Type 0 where
    line_class : LineClass F
    found : IsFoundOf judge s.item line_class
    kept : is_kept line_class ≡ is_kept s.line_class
    row : is_row line_class ≡ is_row s.line_class

  original_class : (line : List ℕ) (f : LineClass F) → IsFoundOf (past_faults judge) line f → Original (record { item = line; line_class = f })
  original_class line LineClass.too_long finds = record { line_class = LineClass.too_long; found = finds; kept = refl; row = refl }
  original_class line LineClass.passed_over finds = record { line_class = LineClass.passed_over; found = finds; kept = refl; row = refl }
  original_class line (LineClass.judged Judgment.Kept) finds = record { line_class = LineClass.judged Judgment.Kept; found = finds; kept = refl; row = refl }
  original_class line (LineClass.judged (Judgment.Fault fault)) finds = record { line_class = LineClass.judged (Judgment.Fault fault); found = finds; kept = refl; row = refl }
  original_class line (LineClass.judged Judgment.LeftOut) (short, said, inl out) =
      record { line_class = LineClass.judged Judgment.LeftOut; found = (short, said, out); kept = refl; row = refl }
  original_class line (LineClass.judged Judgment.LeftOut) (short, said, inr (fault, at)) =
      record { line_class = LineClass.judged (Judgment.Fault fault); found = (short, said, at); kept = refl; row = refl }

  abbrev IsFine : Sifted → Type 0
  IsFine s = IsFoundOf (past_faults judge) s.item s.line_class × IsFaultless s.line_class

  abbrev IsFoundThere : Sifted → Type 0
  IsFoundThere s = IsFoundOf judge s.item s.line_class

  -- the same lines, by what the judge itself says of each
  record Originals (all : List Sifted) : Type 0 where
    own : List Sifted
    items : map (λ s. s.item) own ≡ map (λ s. s.item) all
    found : All IsFoundThere own
    text : kept_text text_of_line own ≡ kept_text text_of_line all
    rows : count_by (λ s. is_row s.line_class) own ≡ count_by (λ s. is_row s.line_class) all
    kept : count_by (λ s. is_kept s.line_class) own ≡ count_by (λ s. is_kept s.line_class) all

  first_text : (s : Sifted) (ss : List Sifted) → kept_text text_of_line (s ∷ ss) ≡ cond (is_kept s.line_class) (text_of_line s.item) [] ++ kept_text text_of_line ss
  first_text s ss = elim (cases_Bool (is_kept s.line_class)) [ inl is ↦ rw is refl | inr is ↦ rw is refl ]

  first_count : (of : LineClass F → Bool) (s : Sifted) (ss : List Sifted)
      → count_by (λ r. of r.line_class) (s ∷ ss) ≡ cond (of s.line_class) 1 0 + count_by (λ r. of r.line_class) ss
  first_count of s ss = sum_by-cons (λ (r : Sifted). cond (of r.line_class) 1 0) s ss

  -- one more line counts alike
  more_counted : (of : LineClass F → Bool) (s t : Sifted) (ss ts : List Sifted) → of s.line_class ≡ of t.line_class
      → count_by (λ r. of r.line_class) ss ≡ count_by (λ r. of r.line_class) ts
      → count_by (λ r. of r.line_class) (s ∷ ss) ≡ count_by (λ r. of r.line_class) (t ∷ ts)
  more_counted of s t ss ts same rest =
      first_count of s ss ∙ ap (λ (b : Bool). cond b 1 0 + count_by (λ r. of r.line_class) ss) same
      ∙ ap (λ (n : ℕ). cond (of t.line_class) 1 0 + n) rest ∙ sym (first_count of t ts)

  originals : (all : List Sifted) → All IsFine all → Originals all
  originals [] fine = record { own = []; items = refl; found = All-nil IsFoundThere; text = refl; rows = refl; kept = refl }
  originals (s ∷ ss) fine =
      let rest = originals ss (All-tail IsFine s ss fine) in
      let here = original_class s.item s.line_class (All-head IsFine s ss fine).0 in
      let own : Sifted = record { item = s.item; line_class = here.line_class } in
      record {
        own = own ∷ rest.own;
        items = ap (λ xs. s.item ∷ xs) rest.items;
        found = All-cons IsFoundThere own rest.own here.found rest.found;
        text = first_text own rest.own ∙ ap (λ (b : Bool). cond b (text_of_line s.item) [] ++ kept_text text_of_line rest.own) here.kept
            ∙ ap (λ l. cond (is_kept s.line_class) (text_of_line s.item) [] ++ l) rest.text ∙ sym (first_text s ss);
        rows = more_counted is_row own s rest.own ss here.row rest.rows;
        kept = more_counted is_kept own s rest.own ss here.kept rest.kept;
      }

  -- what passes past faults is kept past faults
  pub kept_where_passed : (bytes text : List ℕ) (tally : Tally) → Filters (lines (past_faults judge) bytes) text tally → KeepsPastFaults (lines judge bytes) text tally
  kept_where_passed bytes text tally passes =
      let own = originals passes.all passes.found in
      record {
        all = own.own;
        in_order = own.items ∙ passes.in_order;
        found = own.found;
        kept = passes.kept ∙ sym own.text;
        rows_counted = passes.rows_counted ∙ sym own.rows;
        kept_counted = passes.kept_counted ∙ sym own.kept;
      }

  -- so are the lines that were left, where they are known
  pub kept_of_left : (left old new : Option (List ℕ)) (answer : Result Tally (RunStop F))
      → IfOk answer (λ tally. IfSome left (λ bytes. Writes old new (λ text. Filters (lines (past_faults judge) bytes) text tally)))
      → IfOk answer (λ tally. IfSome left (λ bytes. Writes old new (λ text. KeepsPastFaults (lines judge bytes) text tally)))
  kept_of_left left old new (Err stop) passes = tt
  kept_of_left None old new (Ok tally) passes = tt
  kept_of_left (Some bytes) old new (Ok tally) (text, appends, passes) = (text, appends, kept_where_passed bytes text tally passes)
