-- Texts that leave parentheses and quotes as they were.
use Rattle.std.proofs.Common.{◌≡◌, ◌≢◌, ◌∙◌, ℕ, zero, suc, ◌<◌, List, [], ◌∷◌, ◌++◌, ◌/◌, ◌%◌, ℤ, pos, negsuc, Bool, true, false, cond, ◌+◌, inl, inr, nat_eq, nat_lt, refl, sym, ap, subst, arith}
use Rattle.std.proofs.Math.Nat.{mod-lt}
use Rattle.std.proofs.lemmas.Bool.Decides.{eqb_tells, nat_tests}
use Rattle.std.specs.Fmt.{decimal, digit_glyph, digits, digits_onto, signed_decimal}
use Rattle.std.specs.List.{AllByRecursion}
use Rattle.sql_tree.specs.FixedPieces.{PieceTexts}
use Rattle.sql_tree.specs.Parentheses.{HasNoQuote, Reading, in_name, in_text, next, outside, read}
use Rattle.sql_tree.specs.QuotedName.{quoted_name, with_doubled_name_quotes}

pub read_append : (reading : Reading) (xs ys : List ℕ) → read reading (xs ++ ys) ≡ read (read reading xs) ys
read_append reading [] ys = refl
read_append reading (x ∷ xs) ys = read_append (next reading x) xs ys

-- one text and another
pub both : (first middle last : Reading) (xs ys : List ℕ) → read first xs ≡ middle → read middle ys ≡ last → read first (xs ++ ys) ≡ last
both first middle last xs ys one other = read_append first xs ys ∙ ap (λ (r : Reading). read r ys) one ∙ other

-- what leaves the reading as it is outside quotes, however many parentheses are open
abbrev pub IsQuiet : List ℕ → Type 0
IsQuiet text = (depth : ℕ) → read (outside depth) text ≡ outside depth

pub quiet_both : (xs ys : List ℕ) → IsQuiet xs → IsQuiet ys → IsQuiet (xs ++ ys)
quiet_both xs ys one other = λ depth. both (outside depth) (outside depth) (outside depth) xs ys (one depth) (other depth)

-- characters that are neither parentheses nor quotes
abbrev pub IsPlainCharacter : ℕ → Type 0
IsPlainCharacter c = (c ≢ 40) × (c ≢ 41) × (c ≢ 39) × (c ≢ 34)

unequal : (a b : ℕ) → a ≢ b → nat_eq a b ≡ false
unequal a b other = elim (eqb_tells a b) [ inl same ↦ absurd (other same.1) | inr unlike ↦ unlike.0 ]

plain_next : (c depth : ℕ) → IsPlainCharacter c → next (outside depth) c ≡ outside depth
plain_next c depth plain = rw (unequal c 40 plain.0, unequal c 41 plain.1, unequal c 39 plain.2, unequal c 34 plain.3) refl

pub plain_quiet : (text : List ℕ) → AllByRecursion IsPlainCharacter text → IsQuiet text
plain_quiet [] all = λ depth. refl
plain_quiet (c ∷ cs) all = λ depth. ap (λ (r : Reading). read r cs) (plain_next c depth all.0) ∙ plain_quiet cs all.1 depth

-- ---- names and texts between quotes

text_next : (c depth : ℕ) → c ≢ 39 → next (in_text depth) c ≡ in_text depth
text_next c depth other = rw (unequal c 39 other) refl

pub in_text_still : (depth : ℕ) (text : List ℕ) → HasNoQuote text → read (in_text depth) text ≡ in_text depth
in_text_still depth [] none = refl
in_text_still depth (c ∷ cs) none = ap (λ (r : Reading). read r cs) (text_next c depth none.0) ∙ in_text_still depth cs none.1

doubled : (depth : ℕ) (name : List ℕ) → read (in_name depth) (with_doubled_name_quotes name) ≡ in_name depth
doubled depth [] = refl
doubled depth (c ∷ cs) =
    elim (nat_eq c 34) as (λ is_it. nat_eq c 34 ≡ is_it
    → read (in_name depth) (cond is_it (34 ∷ 34 ∷ with_doubled_name_quotes cs) (c ∷ with_doubled_name_quotes cs)) ≡ in_name depth) [
      | true ↦ λ same. doubled depth cs
      | false ↦ λ other. ap (λ (b : Bool). read (cond b (outside depth) (in_name depth)) (with_doubled_name_quotes cs)) other ∙ doubled depth cs
    ] refl

pub quoted_quiet : (name : List ℕ) → IsQuiet (quoted_name name)
quoted_quiet name = λ depth. both (in_name depth) (in_name depth) (outside depth) (with_doubled_name_quotes name) (34 ∷ []) (doubled depth name) refl

-- ---- pieces around children

-- between such pieces stand the texts of children, each outside quotes; after the last one so many parentheses are open
abbrev pub Weaves : PieceTexts → ℕ → ℕ → Type 0
Weaves [] depth last = ⊥
Weaves (piece ∷ []) depth last = read (outside depth) piece ≡ outside last
Weaves (piece ∷ more) depth last = (middle : ℕ) × (read (outside depth) piece ≡ outside middle) × Weaves more middle last

-- as many are open after a node as before it
abbrev pub WeavesQuietly : PieceTexts → Type 0
WeavesQuietly pieces = (depth : ℕ) → Weaves pieces depth depth

-- ---- numbers

glyph_plain : (d : ℕ) → d < 10 → IsPlainCharacter (digit_glyph false d)
glyph_plain d few =
    let small : nat_lt d 10 ≡ true = grind (arith, nat_tests) in
    let is : digit_glyph false d ≡ 48 + d = ap (λ (b : Bool). cond b (48 + d) (87 + d)) small in
    subst IsPlainCharacter (sym is) (λ e. omega (arith, e), λ e. omega (arith, e), λ e. omega (arith, e), λ e. omega (arith, e))

digits_plain : (k n : ℕ) (more : List ℕ) → AllByRecursion IsPlainCharacter more → AllByRecursion IsPlainCharacter (digits_onto k 10 false n more)
digits_plain zero n more all = all
digits_plain (suc k) n more all =
    let few : n % 10 < 10 = mod-lt n (omega arith) in
    let glyph = glyph_plain (n % 10) few in
    elim (nat_eq (n / 10) 0) as (λ last. AllByRecursion IsPlainCharacter (cond last (digit_glyph false (n % 10) ∷ more) (digits_onto k 10 false (n / 10) (digit_glyph false (n % 10) ∷ more)))) [
      | true ↦ (glyph, all)
      | false ↦ digits_plain k (n / 10) (digit_glyph false (n % 10) ∷ more) (glyph, all)
    ]

decimal_plain : (n : ℕ) → AllByRecursion IsPlainCharacter (decimal n)
unfolding digits
decimal_plain n = digits_plain 64 n [] tt

pub decimal_quiet : (n : ℕ) → IsQuiet (decimal n)
decimal_quiet n = plain_quiet (decimal n) (decimal_plain n)

minus_quiet : (text : List ℕ) → IsQuiet text → IsQuiet (45 ∷ text)
minus_quiet text quiet = λ depth. quiet depth

pub signed_quiet : (n : ℤ) → IsQuiet (signed_decimal n)
signed_quiet (pos n) = decimal_quiet n
signed_quiet (negsuc n) = minus_quiet (decimal (suc n)) (decimal_quiet (suc n))
