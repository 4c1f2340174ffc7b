-- Texts of enumerations that are stored, where they stand in a line.
use Rattle.std.proofs.Common.{◌≡◌, ℕ, zero, suc, ◌+◌, ◌<◌, ◌≤◌, List, [], ◌∷◌, length, take, drop, get_or, ℤ, Option, Some, None, IfSome, is_none, true, false, refl, sym, ap, ◌∙◌, subst, arith}
use Rattle.std.proofs.lemmas.Bool.{true≢false}
use Rattle.std.proofs.lemmas.Simd.{get_or-chunk}
use Rattle.std.proofs.lemmas.List.{ext_get_or, get_or-drop, get_or-take, length-drop, length-take-le}
use lib.Lanes.{chunk}
use Rattle.json.specs.Run.{is_plain}
use Rattle.json.specs.Written.{PlainBetween}
use Rattle.csdl_schema.specs.EnumerationText.{IsOfUnderlying, IsValueIn}
use Rattle.csdl_schema.specs.SchemaModel.{IsEnumerationByName, SchemaModel, enumeration_at}
use Rattle.edm_enumerations.specs.EnumerationModel.{EnumerationModel}
use Rattle.json_room.specs.LexemesAt.{IsTextAt}
use Rattle.room_literals.proofs.LiteralTexts.{ArePlain, text_quoted}
use Rattle.enumeration_texts.specs.EnumerationTexts.{IsMemberTextAt, IsOfEnumeration}
use Rattle.enumeration_texts.specs.declared.known_texts.KnownText.{KnownText}
use Rattle.enumeration_texts.specs.private.KnownTexts.{IsOfItsOwn, IsSpelled, text_of}

are_plain : (s : List ℕ) → ((k : ℕ) → k < length s → is_plain (get_or s k 0) ≡ true) → ArePlain s
are_plain [] each = tt
are_plain (x ∷ s) each = (each 0 (omega arith), are_plain s (λ k inside. each (suc k) (omega (arith, inside))))

-- the sixteen bytes after a quote begin with a stored text and its quote
pub text_stands : (known : KnownText) (line b : List ℕ) (from : ℕ) (front : take (length line) b ≡ line) (feed : get_or b (length line) 0 ≡ 10) (room : length line + 64 ≤ length b) → from ≤ length line → get_or b from 0 ≡ 34
    → known.length < 16 → IsSpelled known → ((k : ℕ) → k < 16 → get_or known.mask k 0 ≡ 255 → get_or (chunk (from + 1) 16 b) k 0 ≡ get_or known.front k 0) → IsTextAt line from (text_of known) (from + known.length + 2)
text_stands known line b from front feed room begins opens few is same =
    let n = known.length in
    let f = known.front in
    let s = take n f in
    let long : length s ≡ n = length-take-le n f (omega (arith, few, is.long)) in
    let stands : (k : ℕ) → k < n + 1 → get_or b (from + 1 + k) 0 ≡ get_or f k 0 = λ k inside.
    let inner : k < 16 = omega (arith, inside, few) in
    sym (get_or-chunk (from + 1) 16 b k 0 inner) ∙ same k inner (is.mask k inside) in
    let piece_long : length (take n (drop (from + 1) b)) ≡ n = length-take-le n (drop (from + 1) b) (omega (arith, length-drop (from + 1) b, room, begins, few)) in
    let content : s ≡ take n (drop (from + 1) b) =
    ext_get_or 0 s (take n (drop (from + 1) b)) (long ∙ sym piece_long)
    (λ k inside. let within : k < n = omega (arith, inside, long) in
    get_or-take n f k 0 within ∙ sym (stands k (omega (arith, within))) ∙ sym (get_or-drop (from + 1) b k 0) ∙ sym (get_or-take n (drop (from + 1) b) k 0 within)) in
    let plain : ArePlain s = are_plain s (λ k inside. let within : k < n = omega (arith, inside, long) in ap is_plain (get_or-take n f k 0 within) ∙ is.plain k (omega arith) within) in
    let end : from + 1 + length s + 1 ≡ from + n + 2 = omega (arith, long) in
    let closes : get_or b (from + 1 + length s) 0 ≡ 34 = ap (λ (k : ℕ). get_or b (from + 1 + k) 0) long ∙ stands n (omega arith) ∙ is.quote in
    let quoted = text_quoted line b front feed room from s begins opens plain (subst (λ (k : ℕ). s ≡ take k (drop (from + 1) b)) (sym long) content) closes in
    subst (λ (to : ℕ). IsTextAt line from s to) end quoted

-- it is a text of the enumeration that is asked for
pub text_is : (schema : SchemaModel) (known : KnownText) (id : Option ℕ) (line : List ℕ) (from to : ℕ) → from < to → known.id ≡ id → IsSpelled known → IsOfItsOwn schema known → IsTextAt line from (text_of known) to → IsMemberTextAt schema id line from to
text_is schema known id line from to further same spelled own stands = record {
  further = further;
  enumeration = spelled.enumeration;
  is_of = sym same ∙ spelled.is_of;
  text = text_of known;
  stands = stands;
  is_one = own spelled.enumeration spelled.is_of;
}

-- ---- what is stored of a text

pub some_number : (schema : SchemaModel) (id : ℕ) (text : List ℕ) (r : Option ℤ) → is_none r ≡ false → IsEnumerationByName schema id → IfSome r (IsValueIn (enumeration_at schema id) text) → IfSome r (IsOfUnderlying (enumeration_at schema id))
    → IsOfEnumeration schema id text
some_number schema id text None found by_name value within = absurd (true≢false found)
some_number schema id text (Some n) found by_name value within = (n, subst (λ (e : Option EnumerationModel). IsValueIn e text n) by_name value, subst (λ (e : Option EnumerationModel). IsOfUnderlying e n) by_name within)

pub inside_by : (s : List ℕ) (n : ℕ) → get_or s n 0 ≡ 34 → n < length s
inside_by [] n is = absurd (omega (arith, is))
inside_by (x ∷ s) zero is = omega arith
inside_by (x ∷ s) (suc n) is = omega (arith, inside_by s n is)

-- the first bytes of a text with its quote
pub front_first : (text w front : List ℕ) (n : ℕ) → w ≡ take (n + 1) text → n < length text → n < 16 → ((k : ℕ) → k < 16 → k < length w → get_or front k 0 ≡ get_or w k 0) → (k : ℕ) → k < n + 1 → get_or front k 0 ≡ get_or text k 0
front_first text w front n is inside few first k below =
    let long : length w ≡ n + 1 = ap length is ∙ length-take-le (n + 1) text (omega (arith, inside)) in
    first k (omega (arith, below, few)) (omega (arith, below, long)) ∙ ap (λ (xs : List ℕ). get_or xs k 0) is ∙ get_or-take (n + 1) text k 0 below

pub spelled_so : (id n : ℕ) (text front mask : List ℕ) → PlainBetween text 0 n → get_or text n 0 ≡ 34 → length front ≡ 16 → ((k : ℕ) → k < n + 1 → get_or front k 0 ≡ get_or text k 0) → ((k : ℕ) → k < n + 1 → get_or mask k 0 ≡ 255)
    → IsSpelled (record { id = Some id; length = n; front = front; mask = mask })
spelled_so id n text front mask plain quote long each bits = record {
  enumeration = id;
  is_of = refl;
  plain = λ k from to. ap is_plain (each k (omega (arith, to))) ∙ plain k from to;
  quote = each n (omega arith) ∙ quote;
  mask = bits;
  long = long;
}

pub own_so : (schema : SchemaModel) (id n : ℕ) (text s front mask : List ℕ) → n < 16 → s ≡ take n text → IsOfEnumeration schema id s → get_or text n 0 ≡ 34 → length front ≡ 16 → ((k : ℕ) → k < n + 1 → get_or front k 0 ≡ get_or text k 0)
    → IsOfItsOwn schema (record { id = Some id; length = n; front = front; mask = mask })
own_so schema id n text s front mask few same is quote long each other is_other =
    let within = inside_by text n quote in
    let long_text : length (take n text) ≡ n = length-take-le n text (omega (arith, within)) in
    let long_front : length (take n front) ≡ n = length-take-le n front (omega (arith, long, few)) in
    let front_same : take n text ≡ take n front =
    ext_get_or 0 (take n text) (take n front) (long_text ∙ sym long_front)
    (λ k inside. let inner : k < n = omega (arith, inside, long_text) in
    get_or-take n text k 0 inner ∙ sym (each k (omega (arith, inner))) ∙ sym (get_or-take n front k 0 inner)) in
    let id_same : id ≡ other = cc in
    subst (λ (e : ℕ). IsOfEnumeration schema e (take n front)) id_same (subst (IsOfEnumeration schema id) (same ∙ front_same) is)
