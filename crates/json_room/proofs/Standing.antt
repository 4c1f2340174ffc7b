-- Tokens that stand in a line from one offset to the other.
use Rattle.std.proofs.Common.{◌≡◌, ℕ, ◌+◌, ◌-◌, ◌<◌, ◌≤◌, List, [], ◌∷◌, length, take, drop, get_or, Bool, true, false, ◌&&◌, ◌||◌, refl, sym, ap, ◌∙◌, subst, arith}
use mir.Val.{bool_byte}
use Rattle.std.proofs.lemmas.Bool.{true≢false}
use Rattle.json.specs.Token.{Token, boolean, key, null, number, string}
use Rattle.json.specs.Lex.{token, after_value, between, fresh, lex, punctuate}
use Rattle.json.specs.Print.{IsNumber}
use Rattle.json.specs.Word.{is_space}
use Rattle.json.specs.Written.{PlainBetween}
use Rattle.json_room.specs.Keys.{name_with_colon, quoted_name}
use Rattle.json_room.specs.private.Lexemes.{BeginsKey, PassesSpaces, StandsAt}
use Rattle.json_room.proofs.KeyLemmas.{key_there, member_there}
use Rattle.json_room.proofs.LexemeLemmas.{begins_false, begins_null, begins_text, begins_true, from_byte, number_begins, one_more_space, stay}
use Rattle.json_room.specs.Lexemes.{StandsTo}
use Rattle.json_room.proofs.KeysStand.{NoFeed, each_at, bytes_stand, stands_by_bytes}
use Rattle.json_room.proofs.RoomLemmas.{byte_reported, ends_here, other_default, within_byte}

pub string_stands : (d : List ℕ) (i to : ℕ) (s : List ℕ) → i < to → to ≤ length d → lex between (drop i d) ≡ token (string s) ∷ lex between (drop to d) → StandsTo d i (string s) to
string_stands d i to s further within lexed =
    record { bounds = (further, within); begins = λ p may here. ap (punctuate p) lexed ∙ begins_text p s (lex between (drop to d)) may here.no_colon }

pub true_stands : (d : List ℕ) (i : ℕ) → StandsAt d i (116 ∷ 114 ∷ 117 ∷ 101 ∷ []) → StandsTo d i (boolean true) (i + 4)
true_stands d i stands =
    record { bounds = (omega arith, stands.within); begins = λ p may here. ap (λ t. punctuate p (lex between t)) stands.is ∙ begins_true p (drop (i + 4) d) may here.ends }

pub false_stands : (d : List ℕ) (i : ℕ) → i < length d → get_or d i 32 ≡ 102 → StandsAt d (i + 1) (97 ∷ 108 ∷ 115 ∷ 101 ∷ []) → StandsTo d i (boolean false) (i + 5)
false_stands d i within first stands =
    let there : i + 1 + 4 ≡ i + 5 = omega arith in
    let read : drop i d ≡ 102 ∷ 97 ∷ 108 ∷ 115 ∷ 101 ∷ drop (i + 5) d =
    from_byte d i 102 within first ∙ ap (λ t. 102 ∷ t) (stands.is ∙ ap (λ k. 97 ∷ 108 ∷ 115 ∷ 101 ∷ drop k d) there) in
    record { bounds = (omega arith, omega (arith, stands.within)); begins = λ p may here. ap (λ t. punctuate p (lex between t)) read ∙ begins_false p (drop (i + 5) d) may here.ends }

-- `true`, and what follows the f of `false`
abbrev true_word : List ℕ
true_word = 116 ∷ 114 ∷ 117 ∷ 101 ∷ []

abbrev alse : List ℕ
alse = 97 ∷ 108 ∷ 115 ∷ 101 ∷ []

no_feed_true : NoFeed true_word
no_feed_true = each_at true_word ((λ e. omega (arith, e)), ((λ e. omega (arith, e)), ((λ e. omega (arith, e)), ((λ e. omega (arith, e)), tt))))

no_feed_alse : NoFeed alse
no_feed_alse = each_at alse ((λ e. omega (arith, e)), ((λ e. omega (arith, e)), ((λ e. omega (arith, e)), ((λ e. omega (arith, e)), tt))))

-- one of the two stands there, by the tests of both
module _ (line bytes : List ℕ) (front : take (length line) bytes ≡ line) (feed : get_or bytes (length line) 0 ≡ 10) (room : length line + 64 ≤ length bytes) where
  abbrev FourAt : ℕ → List ℕ → Type 0
  FourAt i word = (k : ℕ) → k < 4 → get_or bytes (i + k) 0 ≡ get_or word k 0

  four_stand : (i : ℕ) (word : List ℕ) → i ≤ length line → length word ≡ 4 → NoFeed word → FourAt i word → StandsAt line i word
  four_stand i word begins long none there =
      stands_by_bytes line i word begins none (λ k inside. bytes_stand line bytes front feed room i 4 word begins none (λ j few l. there j few) k (omega (arith, long, inside)) inside)

  pub truth_stands : (i : ℕ) (is_true is_f other : Bool) → i ≤ length line → (is_f ≡ true → get_or bytes i 0 ≡ 102) → (is_true || (is_f && other)) ≡ true
      → (is_true ≡ true → FourAt i true_word) → (other ≡ true → FourAt (i + 1) alse) → StandsTo line i (boolean is_true) (i + 4 + bool_byte (is_f && other))
  truth_stands i true false other begins first either there rest =
      let end : i + 4 ≡ i + 4 + 0 = omega arith in
      subst (StandsTo line i (boolean true)) end (true_stands line i (four_stand i true_word begins refl no_feed_true (there refl)))
  truth_stands i true true other begins first either there rest =
      let here : i ≡ i + 0 = omega arith in
      let letter : get_or bytes i 0 ≡ 116 = ap (λ k. get_or bytes k 0) here ∙ there refl 0 (omega arith) in
      absurd (omega (arith, letter, first refl))
  truth_stands i false true true begins first either there rest =
      let letter : get_or line i 10 ≡ 102 = sym (byte_reported line bytes front feed room i begins) ∙ first refl in
      let within = within_byte line i 102 letter (λ e. omega (arith, e)) in
      let end : i + 5 ≡ i + 4 + 1 = omega arith in
      subst (StandsTo line i (boolean false)) end
      (false_stands line i within (other_default line i 102 letter (λ e. omega (arith, e))) (four_stand (i + 1) alse (omega (arith, within)) refl no_feed_alse (rest refl)))
  truth_stands i false true false begins first either there rest = absurd (true≢false (sym either))
  truth_stands i false false other begins first either there rest = absurd (true≢false (sym either))

pub null_stands : (d : List ℕ) (i : ℕ) → StandsAt d i (110 ∷ 117 ∷ 108 ∷ 108 ∷ []) → StandsTo d i null (i + 4)
null_stands d i stands =
    record { bounds = (omega arith, stands.within); begins = λ p may here. ap (λ t. punctuate p (lex between t)) stands.is ∙ begins_null p (drop (i + 4) d) may here.ends }

pub number_stands : (d : List ℕ) (i to : ℕ) → i < to → to ≤ length d → IsNumber (take (to - i) (drop i d)) → StandsTo d i (number (take (to - i) (drop i d))) to
number_stands d i to further within counts =
    record { bounds = (further, within); begins = λ p may here. (number_begins d i to (take (to - i) (drop i d)) to after_value (omega arith) refl counts (ends_here d to within here)).begins p may }

-- a name with its quotes and its colon
pub key_stands : (d : List ℕ) (i : ℕ) (name : List ℕ) → PlainBetween name 0 (length name) → StandsAt d i (name_with_colon name) → BeginsKey d i name (i + length (name_with_colon name))
key_stands d i name plain stands =
    record { within = stands.within; begins = λ turn may. member_there turn d i i name may (stay d i (omega (arith, stands.within))) plain stands }

-- the same, with white space before the colon
pub spaced_key_stands : (d : List ℕ) (i k : ℕ) (name : List ℕ) → PlainBetween name 0 (length name) → StandsAt d i (quoted_name name) → PassesSpaces d (i + length (quoted_name name)) k → get_or d k 10 ≡ 58 → BeginsKey d i name (k + 1)
spaced_key_stands d i k name plain stands spaces colon =
    record {
      within = omega (arith, within_byte d k 58 colon (λ e. omega (arith, e)));
      begins = λ turn may. key_there turn d i i k name may (stay d i (omega (arith, stands.within))) plain stands spaces (other_default d k 58 colon (λ e. omega (arith, e)));
    }

-- the same, with a space after the colon
pub key_before_space : (d : List ℕ) (i j : ℕ) (name : List ℕ) → BeginsKey d i name j → get_or d j 10 ≡ 32 → BeginsKey d i name (j + 1)
key_before_space d i j name begins is =
    let within : j < length d = within_byte d j 32 is (λ e. omega (arith, e)) in
    let white : is_space (get_or d j 32) ≡ true = ap is_space (other_default d j 32 is (λ e. omega (arith, e))) in
    let passed : PassesSpaces d j (j + 1) = one_more_space d j j within white (stay d j begins.within) in
    record {
      within = passed.bounds.1;
      begins = λ turn may. begins.begins turn may ∙ ap (λ (ts : List Token). key name ∷ ts) (sym (ap (punctuate fresh) passed.same));
    }
