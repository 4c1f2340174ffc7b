-- Texts whose bytes are those of characters.
use Rattle.std.proofs.Common.{◌≡◌, ℕ, ◌+◌, ◌/◌, ◌%◌, ◌<◌, ◌≤◌, List, [], ◌∷◌, ◌++◌, Bool, true, false, cond, ltb, refl, sym, subst, arith, IsUtf8, encode_utf8_all}
use Rattle.std.specs.Str.{continuation_len}
use Rattle.std.specs.Char.{encode_utf8}
use Rattle.std.proofs.lemmas.Bool.{ltb-true}
use Rattle.sql_tree.proofs.Spelled.{IsSpelled}

pub of_one : (b : ℕ) → b < 128 → continuation_len b ≡ 0
of_one b below = grind arith

of_two : (b : ℕ) → 192 ≤ b → b < 224 → continuation_len b ≡ 1
of_two b above below = grind arith

of_three : (b : ℕ) → 224 ≤ b → b < 240 → continuation_len b ≡ 2
of_three b above below = grind arith

of_four : (b : ℕ) → 240 ≤ b → continuation_len b ≡ 3
of_four b above = grind arith

-- a byte of ASCII
pub one_more : (b : ℕ) (rest : List ℕ) → b < 128 → IsSpelled 0 rest → IsSpelled 0 (b ∷ rest)
one_more b rest below spelled = subst (λ n. IsSpelled n rest) (sym (of_one b below)) spelled

pub one_less : (b : ℕ) (rest : List ℕ) → b < 128 → IsSpelled 0 (b ∷ rest) → IsSpelled 0 rest
one_less b rest below spelled = subst (λ n. IsSpelled n rest) (of_one b below) spelled

further : (x : ℕ) → 128 ≤ 128 + x % 64
further x = omega arith

-- a character
pub character_more : (c : ℕ) (rest : List ℕ) → IsSpelled 0 rest → IsSpelled 0 (encode_utf8 c ++ rest)
unfolding encode_utf8
character_more c rest spelled = by (ltb c 128) refl (ltb c 2048) refl (ltb c 65536) refl
  where
    by : (one : Bool) → ltb c 128 ≡ one → (two : Bool) → ltb c 2048 ≡ two → (three : Bool) → ltb c 65536 ≡ three
        → IsSpelled 0 (cond one (c ∷ []) (cond two ((192 + c / 64) ∷ (128 + c % 64) ∷ [])
        (cond three ((224 + c / 4096) ∷ (128 + (c / 64) % 64) ∷ (128 + c % 64) ∷ []) ((240 + c / 262144) ∷ (128 + (c / 4096) % 64) ∷ (128 + (c / 64) % 64) ∷ (128 + c % 64) ∷ []))) ++ rest)
    by true one two is_two three is_three = one_more c rest (ltb-true c 128 one) spelled
    by false one true two three is_three =
        let below : c < 2048 = ltb-true c 2048 two in
        subst (λ n. IsSpelled n ((128 + c % 64) ∷ rest)) (sym (of_two (192 + c / 64) (omega arith) (omega (arith, below)))) (further c, spelled)
    by false one false two true three =
        let below : c < 65536 = ltb-true c 65536 three in
        subst (λ n. IsSpelled n ((128 + (c / 64) % 64) ∷ (128 + c % 64) ∷ rest)) (sym (of_three (224 + c / 4096) (omega arith) (omega (arith, below)))) (further (c / 64), (further c, spelled))
    by false one false two false three =
        subst (λ n. IsSpelled n ((128 + (c / 4096) % 64) ∷ (128 + (c / 64) % 64) ∷ (128 + c % 64) ∷ rest)) (sym (of_four (240 + c / 262144) (omega arith)))
        (further (c / 4096), (further (c / 64), (further c, spelled)))

characters_spelled : (cs : List ℕ) → IsSpelled 0 (encode_utf8_all cs)
characters_spelled [] = tt
characters_spelled (c ∷ cs) = character_more c (encode_utf8_all cs) (characters_spelled cs)

pub text_spelled : (text : List ℕ) → IsUtf8 text → IsSpelled 0 text
text_spelled text utf8 = subst (IsSpelled 0) utf8.1.1 (characters_spelled utf8.0)
