-- What runs over parts keep, one after another.
use Rattle.std.proofs.Common.{◌≡◌, ℕ, zero, suc, ◌+◌, ◌<◌, List, [], ◌++◌, sym, subst}
use Rattle.line_filter.specs.Kept.{Filters, Passes}
use Rattle.line_filter.specs.LineItems.{LineJudge, line_sieve, lines}
use Rattle.line_filter.specs.Lines.{lines_of}
use Rattle.line_filter.specs.Once.{JudgesOnce}
use Rattle.line_filter.specs.PartRuns.{ArePassed}
use Rattle.line_filter.specs.Parts.{lines_of_part, lines_up_to}
use Rattle.line_filter.specs.declared.tally.Tally.{Tally}
use Rattle.line_filter.proofs.ItemLaws.Once.{IsFoundOf-once, Passes-once, Passes-one_tally}
use Rattle.line_filter.proofs.ItemLaws.Passing.{Passes-append, Passes-none}
use Rattle.line_filter.proofs.PartLaws.Ends.{parts_have_all}

module _ {F : Type 0} (judge : LineJudge F) (count : ℕ) (bytes : List ℕ) where
  -- the lines of the parts so far pass
  passed_so_far : (number : ℕ) (text : List ℕ) (tally : Tally) → ArePassed judge number count bytes text tally → Passes (line_sieve judge) (lines_up_to number count bytes) text tally
  passed_so_far zero text tally (none, zeros) =
      subst (λ (l : List ℕ). Passes (line_sieve judge) [] l tally) (sym none) (subst (λ (t : Tally). Passes (line_sieve judge) [] [] t) (sym zeros) (Passes-none (line_sieve judge)))
  passed_so_far (suc number) text tally (front, last, m, n, before, here, whole, both) =
      let more = Passes-append (line_sieve judge) (lines_up_to number count bytes) (lines_of_part (suc number) count bytes) front last m n (passed_so_far number front m before) here in
      let all : List (List ℕ) = lines_up_to number count bytes ++ lines_of_part (suc number) count bytes in
      subst (λ (l : List ℕ). Passes (line_sieve judge) all l tally) (sym whole) (subst (λ (t : Tally). Passes (line_sieve judge) all (front ++ last) t) (sym both) more)

  -- all parts keep what the text keeps
  pub parts_keep_all : JudgesOnce judge → (text other : List ℕ) (m n : Tally) → 0 < count → ArePassed judge count count bytes text m → Filters (lines judge bytes) other n → (text ≡ other) × (m ≡ n)
  parts_keep_all once text other m n some passed filters =
      let passes = subst (λ (l : List (List ℕ)). Passes (line_sieve judge) l text m) (parts_have_all count bytes some) (passed_so_far count text m passed) in
      let of_line = IsFoundOf-once judge once in (
        Passes-once (line_sieve judge) of_line (lines_of bytes) text other m n passes filters,
        Passes-one_tally (line_sieve judge) of_line (lines_of bytes) text other m n passes filters,
      )
