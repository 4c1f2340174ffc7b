-- Offsets in a text: where pieces end, and what stands after them.
use Rattle.std.proofs.lemmas.Str.{IsUtf8-append, IsCharBoundary-from_take, IsUtf8-drop}
use Rattle.odata_text.proofs.Common.{AllOf, IsCharBoundary-from_rest, ◌≡◌, ◌⊎◌, inl, inr, ⊎_elim, ℕ, ◌+◌, ◌-◌, ◌<◌, ◌≤◌, true, List, [], ◌∷◌, ◌++◌, length, get_or, take, drop, IsUtf8, arith, refl, sym, ◌∙◌, ap, subst, IsCharBoundary, slice_range, cases_lt, get_or-drop, length-take-le, length-drop, fold_more, IsCharBoundary-after_ascii, IsUtf8-from_ascii, IsAscii-cons, IsAscii-nil, IsIdentifier, identifier_run, FollowedBy, IsByte, IsWordSpelling, Spells, dotted_parts, IsGap, IsLongest, IsRunOn, is_undelimited, TokenKind, Word, Dollar, Form, Token, LeftOut}
use Rattle.odata_text.specs.Tokens.{IsLeftOutLiteral}
use Rattle.odata_text.specs.declared.form.LeftOutKind.{LeftOutKind}
use Rattle.odata_text.proofs.machine.Longest.{formed-some, past-word, space-from_class}
use Rattle.odata_text.proofs.machine.Runs.{reads}
use Rattle.odata_text.proofs.machine.States.{ALetter, APlain, Start, enter, form_at, run, step}
use Rattle.odata_text.proofs.machine.Steps.{past-sort}

-- Words are text.

utf8-dotted_parts : (part : List ℕ) (more : List (List ℕ)) → IsIdentifier part → AllOf IsIdentifier more → IsUtf8 (dotted_parts part more)
utf8-dotted_parts part [] identifier all = identifier.utf8
utf8-dotted_parts part (next ∷ more) identifier all =
    IsUtf8-append part (46 ∷ dotted_parts next more) identifier.utf8
    (IsUtf8-append (46 ∷ []) (dotted_parts next more) (IsUtf8-from_ascii (46 ∷ []) (IsAscii-cons 46 [] (omega arith) IsAscii-nil)) (utf8-dotted_parts next more all.0 all.1))

utf8-dollar : (xs : List ℕ) → FollowedBy (IsByte 36) IsIdentifier xs → IsUtf8 xs
utf8-dollar xs pair =
    subst IsUtf8 (sym (pair.whole ∙ ap (λ (ys : List ℕ). ys ++ pair.back) pair.is_front))
    (IsUtf8-append (36 ∷ []) pair.back (IsUtf8-from_ascii (36 ∷ []) (IsAscii-cons 36 [] (omega arith) IsAscii-nil)) pair.is_back.utf8)

-- Pieces end between two characters.

last-boundary : (text : List ℕ) (start n : ℕ) → IsUtf8 text → 0 < n → n ≤ length (drop start text) → get_or (drop start text) (n - 1) 0 < 128 → IsCharBoundary text (start + n)
last-boundary text start n utf8 some within ascii =
    let room = length-drop start text in
    let byte = get_or-drop start text (n - 1) 0 in
    let next : start + (n - 1) + 1 ≡ start + n = omega arith in
    subst (IsCharBoundary text) next (IsCharBoundary-after_ascii text (start + (n - 1)) utf8 (omega arith) (omega arith))

-- a piece whose last byte is not ASCII is a word or a `$` and a name
past-utf8 : (kind : TokenKind) (rest : List ℕ) (n : ℕ) → 0 < n → n ≤ length rest → 128 ≤ get_or rest (n - 1) 0 → Spells kind (take n rest) → IsUtf8 (take n rest)
past-utf8 kind rest n some within far spelled =
    let last : n - 1 + 1 ≡ n = omega arith in
    let here : n - 1 < length rest = omega arith in
    let ends : run (take n rest) ≡ enter (run (take (n - 1) rest)) (ALetter APlain) =
    ap (λ (k : ℕ). run (take k rest)) (sym last) ∙ fold_more step Start rest (n - 1) 0 here ∙ ap (enter (run (take (n - 1) rest))) (past-sort (get_or rest (n - 1) 0) far) in
    word kind spelled (past-word (run (take (n - 1) rest)) kind (ap form_at (sym ends) ∙ reads (Token kind) (take n rest) spelled))
  where
    word : (k : TokenKind) → Spells k (take n rest) → (k ≡ Word) ⊎ (k ≡ Dollar) → IsUtf8 (take n rest)
    word k spelled (inl is) =
        let as_word : IsWordSpelling (take n rest) = subst (λ (j : TokenKind). Spells j (take n rest)) is spelled in
        subst IsUtf8 (sym as_word.whole) (utf8-dotted_parts as_word.part as_word.more as_word.identifier as_word.identifiers)
    word k spelled (inr is) = utf8-dollar (take n rest) (subst (λ (j : TokenKind). Spells j (take n rest)) is spelled)

-- what the code found of a rest it found of the text
pub longest-of : (text rest : List ℕ) (start n : ℕ) (form is : Form) → rest ≡ drop start text → form ≡ is → IsLongest form n rest → IsLongest is n (drop start text)
longest-of text rest start n form is behind same longest = subst (λ (f : Form). IsLongest f n (drop start text)) same (subst (IsLongest form n) behind longest)

pub left_out-literal : (text : List ℕ) (start n : ℕ) (kind : LeftOutKind) → IsLongest (LeftOut kind) n (drop start text) → IsLeftOutLiteral text (record { start = start; stop = start + n })
left_out-literal text start n kind longest =
    let size : n ≡ start + n - start = omega arith in
    record { kind = kind; order = omega arith; longest = subst (λ (k : ℕ). IsLongest (LeftOut kind) k (drop start text)) size longest }

pub boundary-behind : (text : List ℕ) (start n : ℕ) (kind : TokenKind) → IsUtf8 text → IsCharBoundary text start → IsLongest (Token kind) n (drop start text) → IsCharBoundary text (start + n)
boundary-behind text start n kind utf8 boundary longest =
    let rest = drop start text in
    let within : n ≤ length rest = longest.within in
    let size = length-take-le n rest within in
    let full = formed-some (Token kind) (take n rest) longest.spelled in
    let some : 0 < n = omega arith in
    let room = length-drop start text in
    ⊎_elim
    (λ ascii. last-boundary text start n utf8 some within ascii)
    (λ far. IsCharBoundary-from_rest text start n boundary.0 (IsCharBoundary-from_take rest n (IsUtf8-drop text start utf8 boundary) within (past-utf8 kind rest n some within far longest.spelled)))
    (cases_lt (get_or rest (n - 1) 0) 128)

-- white space ends between two characters
pub boundary-gap : (text : List ℕ) (from to : ℕ) → IsUtf8 text → IsCharBoundary text from → IsGap text from to → IsCharBoundary text to
boundary-gap text from to utf8 boundary gap =
    let order = gap.order in
    let within = gap.within in
    ⊎_elim
    (λ behind.
    let last : to - 1 < to = omega arith in
    let white = gap.white (to - 1) (omega arith) last in
    let ascii : get_or text (to - 1) 0 < 128 = ⊎_elim (λ blank. omega arith) (λ tab. omega arith) (space-from_class (get_or text (to - 1) 0) white) in
    let next : to - 1 + 1 ≡ to = omega arith in
    subst (IsCharBoundary text) next (IsCharBoundary-after_ascii text (to - 1) utf8 (omega arith) ascii))
    (λ same. let here : from ≡ to = omega arith in subst (IsCharBoundary text) here boundary)
    (cases_lt from to)

pub run_on : (text : List ℕ) (start n behind : ℕ) (kind : TokenKind) → IsLongest (Token kind) n (drop start text) → is_undelimited kind ≡ true
    → behind ≡ identifier_run (drop (start + n) text) → 0 < behind → IsRunOn text (record { start = start; stop = start + n + behind })
run_on text start n behind kind longest undelimited run some =
    let size : start + n - start ≡ n = omega arith in
    record {
      token = record { kind = kind; start = start; stop = start + n; text = slice_range text start (start + n) };
      longest = record { order = omega arith; longest = subst (λ (k : ℕ). IsLongest (Token kind) k (drop start text)) (sym size) longest; bytes = refl };
      runs_on = (undelimited, omega arith);
      start = refl;
      stop = ap (λ (k : ℕ). start + n + k) run;
    }
