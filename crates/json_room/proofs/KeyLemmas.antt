-- Lemmas on words that stand at an offset, and on names.
use Rattle.std.proofs.Common.{◌≡◌, ℕ, zero, suc, ◌+◌, ◌*◌, ◌%◌, ◌^◌, ◌≤◌, Bool, true, false, cond, eqb, List, [], ◌∷◌, ◌++◌, length, drop, get_or, map, refl, sym, ap, ◌∙◌, arith, append_assoc}
use Rattle.std.proofs.lemmas.Bool.{eqb-true}
use Rattle.std.proofs.lemmas.Simd.{length-zip2, mask_l-mod, tops_compared}
use lib.Lanes.{mask_l, top, zip2}
use mir.Syntax.{w8}
use Rattle.json.specs.Token.{key, string}
use Rattle.json.specs.Lex.{token, between, lex, punctuate, Place, fresh, may_begin}
use Rattle.json.specs.Written.{PlainBetween}
use Rattle.json.proofs.Printed.Plain.{escape_on_plain}
use Rattle.json_room.specs.Keys.{name_with_colon, quoted_name}
use Rattle.json_room.specs.private.Lexemes.{PassesSpaces, StandsAt}
use Rattle.json_room.specs.TokenReading.{tokens_left}
use Rattle.json_room.proofs.LexemeLemmas.{begins_key, from_byte, quoted_lexed, within_byte}

-- ---- words of a few bytes

-- a mask of that many bits, all set
abbrev ones : ℕ → ℕ
ones zero = 0
ones (suc n) = 1 + 2 * ones n

all_equal : (n : ℕ) (xs ys : List ℕ) → length xs ≡ n → length ys ≡ n → mask_l (zip2 eqb xs ys) ≡ ones n → xs ≡ ys
all_equal zero [] [] long long' is = refl
all_equal zero [] (y ∷ ys) long long' is = absurd (omega (arith, long'))
all_equal zero (x ∷ xs) ys long long' is = absurd (omega (arith, long))
all_equal (suc n) [] ys long long' is = absurd (omega (arith, long))
all_equal (suc n) (x ∷ xs) [] long long' is = absurd (omega (arith, long'))
all_equal (suc n) (x ∷ xs) (y ∷ ys) long long' is = by (eqb x y) refl (all_equal n xs ys (omega (arith, long)) (omega (arith, long')))
  where
    by : (b : Bool) → eqb x y ≡ b → (mask_l (zip2 eqb xs ys) ≡ ones n → xs ≡ ys) → x ∷ xs ≡ y ∷ ys
    by true e further =
        let all : 1 + 2 * mask_l (zip2 eqb xs ys) ≡ 1 + 2 * ones n = sym (ap (λ b. cond b 1 0 + 2 * mask_l (zip2 eqb xs ys)) e) ∙ is in
        let rest : mask_l (zip2 eqb xs ys) ≡ ones n = omega (arith, all) in
        ap (λ z. z ∷ xs) (eqb-true x y e) ∙ ap (λ zs. y ∷ zs) (further rest)
    by false e further =
        let none : 0 + 2 * mask_l (zip2 eqb xs ys) ≡ 1 + 2 * ones n = sym (ap (λ b. cond b 1 0 + 2 * mask_l (zip2 eqb xs ys)) e) ∙ is in
        absurd (omega (arith, none))

-- where each lane passes the test of equality, as the code makes it
pub lanes_equal : (n : ℕ) (xs ys : List ℕ) → length xs ≡ n → length ys ≡ n → n ≤ 64 → mask_l (map (top 7) (zip2 (λ a b. cond (eqb a b) 255 0) xs ys)) % 2 ^ 64 ≡ ones n → xs ≡ ys
lanes_equal n xs ys long long' few is =
    let count : length (zip2 eqb xs ys) ≡ n = length-zip2 eqb xs ys (long ∙ sym long') ∙ long in
    all_equal n xs ys long long'
    (sym (mask_l-mod (zip2 eqb xs ys) 64 (omega (arith, count))) ∙ sym (ap (λ z. mask_l z % 2 ^ 64) (tops_compared w8 eqb xs ys)) ∙ is)

-- ---- words by their first bytes and their last

-- ---- names

-- a name and its colon, where they stand
pub key_there : (turn : Place) (d : List ℕ) (i j k : ℕ) (name : List ℕ) → may_begin turn ≡ true → PassesSpaces d i j → PlainBetween name 0 (length name) → StandsAt d j (quoted_name name)
    → PassesSpaces d (j + length (quoted_name name)) k → get_or d k 32 ≡ 58 → tokens_left turn (drop i d) ≡ key name ∷ tokens_left fresh (drop (k + 1) d)
key_there turn d i j k name may passed plain stands behind colon =
    let r = drop (j + length (quoted_name name)) d in
    let parts : drop j d ≡ 34 ∷ (name ++ 34 ∷ r) = stands.is ∙ ap (λ l. 34 ∷ l) (append_assoc name (34 ∷ []) r) in
    let there : lex between (58 ∷ drop (k + 1) d) ≡ lex between r = sym (ap (lex between) (from_byte d k 58 (within_byte d k 58 colon (λ e. omega arith)) colon)) ∙ behind.same in
    ap (punctuate turn) (sym passed.same ∙ ap (lex between) parts ∙ quoted_lexed name r (escape_on_plain true name plain) ∙ ap (λ ls. token (string name) ∷ ls) (sym there))
    ∙ begins_key turn name (drop (k + 1) d) may

-- the same, where the colon stands after the name
pub member_there : (turn : Place) (d : List ℕ) (i j : ℕ) (name : List ℕ) → may_begin turn ≡ true → PassesSpaces d i j → PlainBetween name 0 (length name) → StandsAt d j (name_with_colon name)
    → tokens_left turn (drop i d) ≡ key name ∷ tokens_left fresh (drop (j + length (name_with_colon name)) d)
member_there turn d i j name may passed plain stands =
    let r = drop (j + length (name_with_colon name)) d in
    let parts : drop j d ≡ 34 ∷ (name ++ 34 ∷ (58 ∷ r)) =
    stands.is ∙ ap (λ l. 34 ∷ l) (append_assoc (name ++ 34 ∷ []) (58 ∷ []) r ∙ append_assoc name (34 ∷ []) (58 ∷ r)) in
    ap (punctuate turn) (sym passed.same ∙ ap (lex between) parts ∙ quoted_lexed name (58 ∷ r) (escape_on_plain true name plain)) ∙ begins_key turn name r may
