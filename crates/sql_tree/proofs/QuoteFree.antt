-- An identifier has no quote among its bytes.
use Rattle.std.proofs.Common.{◌≡◌, ◌≢◌, ℕ, zero, suc, ◌+◌, ◌-◌, ◌*◌, List, [], ◌∷◌, true, subst, arith}
use Rattle.std.specs.List.{list_all}
use Rattle.std.specs.Str.{chars, chars_after, continuation_len, lead_bits}
use Rattle.std.proofs.lemmas.Bool.{and_parts, both_ways}
use Rattle.odata_text.specs.Identifier.{continues_identifier, is_identifier}
use Rattle.odata_text.proofs.characters.IdentifierBytes.{continues-ascii}
use Rattle.odata_text.proofs.characters.Identifiers.{all-from_identifier}
use Rattle.sql_tree.specs.Parentheses.{HasNoQuote}
use Rattle.sql_tree.proofs.Spelled.{IsSpelled}

quote_passes : (bs : List ℕ) → list_all continues_identifier (chars_after zero 39 bs) ≡ true → ⊥
quote_passes [] all = both_ways (continues_identifier 39) (continues-ascii 39 (omega arith)) (and_parts (continues_identifier 39) true all).0
quote_passes (b ∷ bs) all = both_ways (continues_identifier 39) (continues-ascii 39 (omega arith)) (and_parts (continues_identifier 39) _ all).0

-- a first byte of a character that may stand in an identifier
no_quote_first : (b : ℕ) (bs : List ℕ) → list_all continues_identifier (chars_after (continuation_len b) (lead_bits b) bs) ≡ true → b ≢ 39
no_quote_first b bs all same =
    quote_passes bs (subst (λ x. list_all continues_identifier (chars_after (continuation_len x) (lead_bits x) bs) ≡ true) same all)

no_quotes : (n c : ℕ) (bs : List ℕ) → IsSpelled n bs → list_all continues_identifier (chars_after n c bs) ≡ true → HasNoQuote bs
no_quotes n c [] spelled all = tt
no_quotes zero c (b ∷ bs) spelled all =
    let later = (and_parts (continues_identifier c) _ all).1 in
    (no_quote_first b bs later, no_quotes (continuation_len b) (lead_bits b) bs spelled later)
no_quotes (suc n) c (b ∷ bs) spelled all =
    ((λ same. omega (arith, spelled.0, same)), no_quotes n (c * 64 + (b - 128)) bs spelled.1 all)

pub quote_free : (name : List ℕ) → IsSpelled 0 name → is_identifier (chars name) ≡ true → HasNoQuote name
unfolding chars
quote_free [] spelled identifier = tt
quote_free (b ∷ bs) spelled identifier =
    let all = all-from_identifier (chars (b ∷ bs)) identifier in
    (no_quote_first b bs all, no_quotes (continuation_len b) (lead_bits b) bs spelled all)
