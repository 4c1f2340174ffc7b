-- Tokens that are printed one after another are read back.
use Rattle.std.proofs.Math.ListN.{get_or-append}
use Rattle.std.proofs.Math.Seq.{get_or-append_right}
use Rattle.odata_text.proofs.Common.{drop-drop, drop_at, ◌≡◌, ℕ, ◌+◌, ◌-◌, ◌<◌, ◌≤◌, ◌==◌, not, true, false, List, [], ◌∷◌, ◌++◌, suc, length, get_or, take, drop, arith, refl, sym, ◌∙◌, ap, subst, length-append, append_assoc, append-nil, All, and_parts, nat_tests, take_at, class_of, identifier_run, AreTokensOf, ArePrintable, MayFollow, Print, is_separator, may_follow, Spells, AreTokensFrom, IsGap, IsTokenAt, IsTokenList, end_of, is_undelimited, text_limit, token_limit, Space, TokenKind, Int}
use Rattle.odata_text.specs.Printing.{print_tokens, print_text}
use Rattle.odata_text.specs.Tokens.{RunsOn}
use Rattle.odata_text.proofs.characters.IdentifierBytes.{is_name_byte, run-nothing, run-outside}
use Rattle.odata_text.proofs.machine.Longest.{longest-before, separator-ascii}

-- No identifier character stands after a token.

separator-name : (b : ℕ) → is_separator b ≡ true → is_name_byte b ≡ false
separator-name b separator = grind (arith, nat_tests)

run-none : (b : ℕ) (more : List ℕ) → is_separator b ≡ true → identifier_run (b ∷ more) ≡ 0
run-none b more separator = run-outside b more (separator-ascii b separator) (separator-name b separator)

follow-separator : (kind : TokenKind) (b : ℕ) → is_undelimited kind ≡ true → may_follow kind b ≡ true → is_separator b ≡ true
follow-separator Int b undelimited follows = (and_parts (is_separator b) (not (b == 58)) follows).0
follow-separator _ b undelimited follows = cc

no_run : (kind : TokenKind) (rest : List ℕ) → MayFollow kind rest → RunsOn kind rest → ⊥
no_run kind [] follows runs = let some = runs.1 in let none = run-nothing in absurd (omega arith)
no_run kind (b ∷ more) follows runs =
    let none = run-none b more (follow-separator kind b runs.0 follows) in
    let some = runs.1 in
    absurd (omega arith)

-- One token.
token_at : (text before piece rest : List ℕ) (kind : TokenKind) (start stop : ℕ) → text ≡ before ++ (piece ++ rest) → start ≡ length before → stop ≡ start + length piece → Spells kind piece → MayFollow kind rest
    → IsTokenAt text (record { kind = kind; start = start; stop = stop; text = piece })
token_at text before piece rest kind start stop whole starts stops spelled follows =
    let size : length piece ≡ stop - start = omega arith in
    let behind : drop start text ≡ piece ++ rest = ap (drop start) whole ∙ drop_at before (piece ++ rest) start (sym starts) in
    let front : take (stop - start) (drop start text) ≡ piece = ap (take (stop - start)) behind ∙ take_at piece rest (stop - start) size in
    let past : drop (stop - start) (drop start text) ≡ rest = ap (drop (stop - start)) behind ∙ drop_at piece rest (stop - start) size in
    let end : start + (stop - start) ≡ stop = omega arith in
    let room = ap length behind ∙ length-append piece rest in
    record {
      longest = record {
        order = omega arith;
        longest = longest-before kind (drop start text) (stop - start) (omega arith) (subst (Spells kind) (sym front) spelled) (subst (MayFollow kind) (sym past) follows);
        bytes = sym front;
      };
      ends = λ runs. no_run kind rest follows (subst (RunsOn kind) (ap (λ (n : ℕ). drop n text) (sym end) ∙ sym (drop-drop (stop - start) start text) ∙ past) runs);
    }

-- All of them.

record AreRead (text : List ℕ) (from at : ℕ) (prints : List Print) : Type 0 where
  tokens : AreTokensFrom text from (print_tokens at prints)
  ends : IsGap text (end_of from (print_tokens at prints)) (length text)

white_gap : (text before gap rest : List ℕ) (from to : ℕ) → text ≡ before ++ (gap ++ rest) → from ≡ length before → to ≡ from + length gap → All (λ b. class_of b ≡ Space) gap → IsGap text from to
white_gap text before gap rest from to whole starts stops white =
    let size = ap length whole ∙ length-append before (gap ++ rest) in
    let back = length-append gap rest in
    record {
      order = omega arith;
      within = omega arith;
      white = λ i low high.
          let place : i - length before < length gap = omega arith in
          let byte : get_or text i 0 ≡ get_or gap (i - length before) 0 =
          ap (λ (xs : List ℕ). get_or xs i 0) whole ∙ get_or-append_right before (gap ++ rest) i 0 (omega arith) ∙ get_or-append gap rest 0 (i - length before) place in
          ap class_of byte ∙ white (i - length before) 0 place;
    }

prints_read : (text before : List ℕ) (prints : List Print) (from at : ℕ) → text ≡ before ++ print_text prints → at ≡ length before → ArePrintable prints → IsGap text from at → AreRead text from at prints
prints_read text before [] from at whole starts printable gap =
    let all : at ≡ length text = starts ∙ sym (ap length (whole ∙ append-nil before)) in
    record { tokens = tt; ends = subst (IsGap text from) all gap }
prints_read text before (p ∷ prints) from at whole starts printable gap =
    let rest = print_text prints in
    let token_size = length-append before p.text in
    let size = length-append (before ++ p.text) p.gap in
    let here : text ≡ before ++ (p.text ++ (p.gap ++ rest)) = whole ∙ ap (λ (xs : List ℕ). before ++ xs) (append_assoc p.text p.gap rest) in
    let behind : text ≡ (before ++ p.text) ++ (p.gap ++ rest) = here ∙ sym (append_assoc before p.text (p.gap ++ rest)) in
    let next : text ≡ ((before ++ p.text) ++ p.gap) ++ rest = behind ∙ sym (append_assoc (before ++ p.text) p.gap rest) in
    let white = white_gap text (before ++ p.text) p.gap rest (at + length p.text) (at + length p.text + length p.gap) behind (omega arith) refl printable.1.0 in
    let more = prints_read text ((before ++ p.text) ++ p.gap) prints (at + length p.text) (at + length p.text + length p.gap) next (omega arith) printable.1.1.1 white in
    record {
      tokens = (gap, (token_at text before p.text (p.gap ++ rest) p.kind at (at + length p.text) here starts refl printable.0 printable.1.1.0, more.tokens));
      ends = more.ends;
    }

length-print_tokens : (at : ℕ) (prints : List Print) → length (print_tokens at prints) ≡ length prints
length-print_tokens at [] = refl
length-print_tokens at (p ∷ prints) = ap suc (length-print_tokens (at + length p.text + length p.gap) prints)

pub prints-tokens : (prints : List Print) → ArePrintable prints → AreTokensOf (print_text prints) (print_tokens 0 prints)
prints-tokens prints printable =
    let all = prints_read (print_text prints) [] prints 0 0 refl refl printable (record { order = omega arith; within = omega arith; white = λ i low high. absurd (omega arith) }) in
    record { tokens = all.tokens; ends = all.ends }

pub prints-list : (prints : List Print) → ArePrintable prints → length (print_text prints) ≤ text_limit → length prints ≤ token_limit → IsTokenList (print_text prints) (print_tokens 0 prints)
prints-list prints printable short few =
    let all = prints-tokens prints printable in
    let count = length-print_tokens 0 prints in
    record { short = short; few = omega arith; tokens = all.tokens; ends = all.ends }
