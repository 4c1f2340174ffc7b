-- A text has at most one token list or first fault, and never both.
use Rattle.std.specs.Prelude.{encode_utf8}
use Rattle.std.proofs.lemmas.Bool.{lt-ltb}
use Rattle.std.proofs.lemmas.Str.{IsUtf8-encode}
use Rattle.odata_text.proofs.Common.{◌⊎◌, ◌≡◌, inl, inr, ⊎_elim, ℕ, suc, ◌+◌, ◌-◌, ◌<◌, ◌≤◌, ◌&&◌, nat_lt, cond, chars, append-nil, List, [], ◌∷◌, ◌++◌, length, get_or, take, drop, Option, Some, None, arith, refl, sym, ◌∙◌, ap, subst, add-zero, slice_range, len_utf8, and_from, and_parts, cases_order, cond-false, cond-true, false_from_ne_true, ltb-true, get_or-drop, get_or-take, length-drop, length-take-le, take-append-drop, chars-append, chars-nil, chars_past_char, class_of, TokenModel, AreTokensOf, identifier_run, IsFormed, AreTokensFrom, IsFaultAt, IsFaultBehind, IsGap, IsLongest, IsRunOn, IsTokenAt, IsTokenList, NoneSpelled, end_of, is_undelimited, token_limit, Space, TextFault, LeftOutLiteral, RunOn, TooLong, Memory, Form, Token, LeftOut}
use Rattle.odata_text.specs.declared.byte_class.ByteClass.TheVariants.{Other, Quote}
use Rattle.odata_text.specs.Tokens.{IsBadCharacter, IsLongestToken, IsNoToken, IsTextFault}
use Rattle.odata_text.specs.declared.byte_class.ByteClass.{ByteClass}
use Rattle.odata_text.specs.declared.text_fault.TextFault.TheVariants.{BadCharacter, UnclosedString}
use Rattle.odata_text.specs.declared.span.Span.{Span}
use Rattle.odata_text.proofs.machine.Longest.{formed-some, same_form, solid-start}

-- One piece at an offset.

-- two longest pieces at one offset are one
same_longest : (rest : List ℕ) (f g : Form) (m n : ℕ) → IsLongest f m rest → IsLongest g n rest → (f ≡ g) × (m ≡ n)
same_longest rest f g m n first second =
    let above = first.longest g n second.within second.spelled in
    let below = second.longest f m first.within first.spelled in
    let size : n ≡ m = omega arith in
    (same_form (take m rest) f g first.spelled (subst (λ (k : ℕ). IsFormed g (take k rest)) size second.spelled), sym size)

at_start : (text : List ℕ) (piece : TokenModel) (start : ℕ) → piece.start ≡ start → IsLongestToken text piece → IsLongest (Token piece.kind) (piece.stop - start) (drop start text)
at_start text piece start here is_piece = subst (λ (s : ℕ). IsLongest (Token piece.kind) (piece.stop - s) (drop s text)) here is_piece.longest

same_piece : (text : List ℕ) (p q : TokenModel) (place : ℕ) → p.start ≡ place → q.start ≡ place → IsLongestToken text p → IsLongestToken text q → p ≡ q
same_piece text p q place p_here q_here p_is q_is =
    let same = same_longest (drop place text) (Token p.kind) (Token q.kind) (p.stop - place) (q.stop - place) (at_start text p place p_here p_is) (at_start text q place q_here q_is) in
    let form : Token p.kind ≡ Token q.kind = same.0 in
    let kind : p.kind ≡ q.kind = cc in
    let size = same.1 in
    let p_order = p_is.order in
    let q_order = q_is.order in
    let start : p.start ≡ q.start = p_here ∙ sym q_here in
    let stop : p.stop ≡ q.stop = omega arith in
    let bytes : p.text ≡ q.text = p_is.bytes ∙ ap (λ (s : ℕ). slice_range text s p.stop) start ∙ ap (λ (t : ℕ). slice_range text q.start t) stop ∙ sym q_is.bytes in
    λ i. record { kind = kind i; start = start i; stop = stop i; text = bytes i }

-- One place after white space.

-- there is a byte at the offset, and it is no white space
record IsSolid (text : List ℕ) (place : ℕ) : Type 0 where
  inside : place < length text
  solid : class_of (get_or text place 0) ≡ Space → ⊥

IsSolid-longest : (text : List ℕ) (start n : ℕ) (form : Form) → IsLongest form n (drop start text) → IsSolid text start
IsSolid-longest text start n form longest =
    let within = longest.within in
    let some = formed-some form (take n (drop start text)) longest.spelled in
    let size = length-take-le n (drop start text) within in
    let room = length-drop start text in
    let byte : get_or (take n (drop start text)) 0 0 ≡ get_or text start 0 =
    get_or-take n (drop start text) 0 0 (omega arith) ∙ get_or-drop start text 0 0 ∙ ap (λ (i : ℕ). get_or text i 0) (add-zero start) in
    record {
      inside = omega arith;
      solid = λ space. solid-start form (take n (drop start text)) longest.spelled (ap class_of byte ∙ space);
    }

same_place : (text : List ℕ) (from a b : ℕ) → IsGap text from a → IsGap text from b → IsSolid text a → IsSolid text b → a ≡ b
same_place text from a b to_a to_b solid_a solid_b =
    let a_order = to_a.order in
    let b_order = to_b.order in
    ⊎_elim (λ same. same)
    (λ apart. ⊎_elim (λ below. absurd (solid_a.solid (to_b.white a a_order below))) (λ above. absurd (solid_b.solid (to_a.white b b_order above))) apart)
    (cases_order a b)

not_at_end : (text : List ℕ) (from a : ℕ) → IsGap text from a → IsGap text from (length text) → IsSolid text a → ⊥
not_at_end text from a to_a to_end solid = solid.solid (to_end.white a to_a.order solid.inside)

-- One fault at an offset.

-- what stands at the front: the longest piece, or none
abbrev IsFound : List ℕ → Option (Form × ℕ) → Type 0
IsFound rest None = NoneSpelled rest
IsFound rest (Some (form, n)) = IsLongest form n rest

same_found : (rest : List ℕ) (a b : Option (Form × ℕ)) → IsFound rest a → IsFound rest b → a ≡ b
same_found rest None None one two = refl
same_found rest None (Some (form, n)) one two = absurd (one form n two.spelled)
same_found rest (Some (form, n)) None one two = absurd (two form n one.spelled)
same_found rest (Some (f, m)) (Some (g, n)) one two = let same = same_longest rest f g m n one two in λ i. Some (same.0 i, same.1 i)

abbrev span_of : ℕ → ℕ → Span
span_of start stop = record { start = start; stop = stop }

-- the fault of an offset at which nothing stands
abbrev fault_at_none : List ℕ → ℕ → ByteClass → TextFault
fault_at_none text place Quote = UnclosedString (span_of place (length text))
fault_at_none text place _ = BadCharacter (span_of place (place + len_utf8 (get_or (chars (drop place text)) 0 0)))

-- the fault of an offset at which that stands: of a faultless token that it is one too many
abbrev fault_of : List ℕ → ℕ → Option (Form × ℕ) → TextFault
fault_of text place None = fault_at_none text place (class_of (get_or text place 0))
fault_of text place (Some (LeftOut kind, n)) = LeftOutLiteral (span_of place (place + n))
fault_of text place (Some (Token kind, n)) =
    cond (is_undelimited kind && nat_lt 0 (identifier_run (drop (place + n) text)))
    (RunOn (span_of place (place + n + identifier_run (drop (place + n) text)))) (TooLong (span_of place (place + n)))

-- a fault at an offset is that of what stands there, and a byte that is no white space does
record IsOf (text : List ℕ) (place : ℕ) (fault : TextFault) : Type 0 where
  solid : IsSolid text place
  found : Option (Form × ℕ)
  is_found : IsFound (drop place text) found
  is : fault ≡ fault_of text place found

of_none : (text : List ℕ) (place : ℕ) (fault : TextFault) → IsNoToken text place → fault ≡ fault_of text place None → IsOf text place fault
of_none text place fault none is = record { solid = record { inside = none.inside; solid = none.solid }; found = None; is_found = λ form m spelled. none.none form m spelled; is = is }

of_longest : (text : List ℕ) (start n : ℕ) (form : Form) (fault : TextFault) → IsLongest form n (drop start text) → fault ≡ fault_of text start (Some (form, n)) → IsOf text start fault
of_longest text start n form fault longest is = record { solid = IsSolid-longest text start n form longest; found = Some (form, n); is_found = longest; is = is }

-- a faultless token
token_fault : (text : List ℕ) (piece : TokenModel) → IsTokenAt text piece → fault_of text piece.start (Some (Token piece.kind, piece.stop - piece.start)) ≡ TooLong (span_of piece.start piece.stop)
token_fault text piece token =
    let order = token.longest.order in
    let stop : piece.start + (piece.stop - piece.start) ≡ piece.stop = omega arith in
    let ends = token.ends in
    rw stop (cond-false (is_undelimited piece.kind && nat_lt 0 (identifier_run (drop piece.stop text))) _ _
    (false_from_ne_true _ (λ both. let parts = and_parts (is_undelimited piece.kind) _ both in ends (parts.0, ltb-true 0 _ parts.1))))

of_token : (text : List ℕ) (piece : TokenModel) (fault : TextFault) → IsTokenAt text piece → fault ≡ TooLong (span_of piece.start piece.stop) → IsOf text piece.start fault
of_token text piece fault token is = of_longest text piece.start (piece.stop - piece.start) (Token piece.kind) fault token.longest.longest (is ∙ sym (token_fault text piece token))

run_fault : (text : List ℕ) (span : Span) (run : IsRunOn text span) → RunOn span ≡ fault_of text run.token.start (Some (Token run.token.kind, run.token.stop - run.token.start))
run_fault text span run =
    let piece = run.token in
    let order = run.longest.order in
    let stop : piece.start + (piece.stop - piece.start) ≡ piece.stop = omega arith in
    let start = run.start in
    let end = run.stop in
    let span_is : span ≡ span_of piece.start (piece.stop + identifier_run (drop piece.stop text)) = (λ i. record { start = start i; stop = end i }) in
    rw stop (ap RunOn span_is ∙ sym (cond-true (is_undelimited piece.kind && nat_lt 0 (identifier_run (drop piece.stop text))) _ _
    (and_from (is_undelimited piece.kind) _ run.runs_on.0 (lt-ltb 0 _ run.runs_on.1))))

fault_at_none-other : (text : List ℕ) (place : ℕ) (class : ByteClass) → (class ≡ Quote → ⊥) → fault_at_none text place class ≡ fault_at_none text place Other
fault_at_none-other text place Quote other = absurd (other refl)
fault_at_none-other text place _ other = refl

bad_fault : (text : List ℕ) (span : Span) → IsBadCharacter text span → BadCharacter span ≡ fault_of text span.start None
bad_fault text span bad =
    let c = bad.character.0 in
    let at = bad.character.1 in
    let rest = drop span.start text in
    let size = span.stop - span.start in
    let whole : rest ≡ encode_utf8 c ++ drop size rest = sym (take-append-drop size rest) ∙ ap (λ (front : List ℕ). front ++ drop size rest) at.bytes in
    let one : chars (encode_utf8 c) ≡ c ∷ [] = chars_past_char (encode_utf8 c) [] c (IsUtf8-encode c at.scalar) (sym (append-nil (encode_utf8 c))) ∙ ap (λ (cs : List ℕ). c ∷ cs) chars-nil in
    let first : get_or (chars rest) 0 0 ≡ c = ap (λ (xs : List ℕ). get_or (chars xs) 0 0) whole
    ∙ ap (λ (cs : List ℕ). get_or cs 0 0) (chars-append (encode_utf8 c) (drop size rest) (IsUtf8-encode c at.scalar) ∙ ap (λ (cs : List ℕ). cs ++ chars (drop size rest)) one) in
    let stop : span.stop ≡ span.start + len_utf8 (get_or (chars rest) 0 0) = at.stop ∙ sym (ap (λ (d : ℕ). span.start + len_utf8 d) first) in
    ap BadCharacter (λ i. record { start = span.start; stop = stop i }) ∙ sym (fault_at_none-other text span.start (class_of (get_or text span.start 0)) bad.unquoted)

of_fault : (text : List ℕ) (place before : ℕ) (fault : TextFault) → IsFaultAt text place before fault → IsOf text place fault
of_fault text place before (BadCharacter span) (here, bad) =
    subst (λ (p : ℕ). IsOf text p (BadCharacter span)) here (of_none text span.start (BadCharacter span) bad.no_token (bad_fault text span bad))
of_fault text place before (UnclosedString span) (here, unclosed) =
    let stop = unclosed.stop in
    subst (λ (p : ℕ). IsOf text p (UnclosedString span)) here
    (of_none text span.start (UnclosedString span) unclosed.no_token (ap UnclosedString (λ i. record { start = span.start; stop = stop i }) ∙ sym (ap (fault_at_none text span.start) unclosed.quoted)))
of_fault text place before (LeftOutLiteral span) (here, literal) =
    let order = literal.order in
    let stop : span.stop ≡ span.start + (span.stop - span.start) = omega arith in
    subst (λ (p : ℕ). IsOf text p (LeftOutLiteral span)) here
    (of_longest text span.start (span.stop - span.start) (LeftOut literal.kind) (LeftOutLiteral span) literal.longest (ap LeftOutLiteral (λ i. record { start = span.start; stop = stop i })))
of_fault text place before (RunOn span) (here, run) =
    let piece = run.token in
    subst (λ (p : ℕ). IsOf text p (RunOn span)) (sym run.start ∙ here)
    (of_longest text piece.start (piece.stop - piece.start) (Token piece.kind) (RunOn span) run.longest.longest (run_fault text span run))
of_fault text place before (TooLong span) (here, many) =
    let start = many.start in
    let stop = many.stop in
    subst (λ (p : ℕ). IsOf text p (TooLong span)) (sym many.start ∙ here)
    (of_token text many.last (TooLong span) many.token (ap TooLong (λ i. record { start = start i; stop = stop i })))
of_fault text place before Memory fault = absurd fault

-- two faults of one offset are one
same_of : (text : List ℕ) (place : ℕ) (f g : TextFault) → IsOf text place f → IsOf text place g → f ≡ g
same_of text place f g one two = one.is ∙ ap (fault_of text place) (same_found (drop place text) one.found two.found one.is_found two.is_found) ∙ sym two.is

-- One reading of a text.

-- from the offset on, so many tokens being before it, there is white space up to the end, or up to a fault
record IsFaultFrom (text : List ℕ) (from before : ℕ) (fault : TextFault) : Type 0 where
  place : ℕ
  gap : IsGap text from place
  fault_at : IsFaultAt text place before fault

abbrev EndsFrom : List ℕ → ℕ → ℕ → Option TextFault → Type 0
EndsFrom text from before None = IsGap text from (length text)
EndsFrom text from before (Some fault) = IsFaultFrom text from before fault

-- where one reading ends no other has a token, unless the end is a fault and there are too many
no_more : (text : List ℕ) (from before : ℕ) (end : Option TextFault) (piece : TokenModel) → EndsFrom text from before end → IsGap text from piece.start → IsTokenAt text piece
    → (end ≡ None → ⊥) × (before ≡ token_limit)
no_more text from before None piece ends gap token = absurd (not_at_end text from piece.start gap ends (of_token text piece _ token refl).solid)
no_more text from before (Some fault) piece ends gap token =
    let of = of_fault text ends.place before fault ends.fault_at in
    let too_many = of_token text piece (TooLong (span_of piece.start piece.stop)) token refl in
    let here : piece.start ≡ ends.place = same_place text from piece.start ends.place gap ends.gap too_many.solid of.solid in
    let is : fault ≡ TooLong (span_of piece.start piece.stop) = same_of text ends.place fault (TooLong (span_of piece.start piece.stop)) of (subst (λ (p : ℕ). IsOf text p (TooLong (span_of piece.start piece.stop))) here too_many) in
    ((λ none. cc), (subst (IsFaultAt text ends.place before) is ends.fault_at).1.count)

same_end : (text : List ℕ) (from before : ℕ) (a b : Option TextFault) → EndsFrom text from before a → EndsFrom text from before b → a ≡ b
same_end text from before None None a_ends b_ends = refl
same_end text from before None (Some g) a_ends b_ends = absurd (not_at_end text from b_ends.place b_ends.gap a_ends (of_fault text b_ends.place before g b_ends.fault_at).solid)
same_end text from before (Some f) None a_ends b_ends = absurd (not_at_end text from a_ends.place a_ends.gap b_ends (of_fault text a_ends.place before f a_ends.fault_at).solid)
same_end text from before (Some f) (Some g) a_ends b_ends =
    let one = of_fault text a_ends.place before f a_ends.fault_at in
    let two = of_fault text b_ends.place before g b_ends.fault_at in
    let here : b_ends.place ≡ a_ends.place = same_place text from b_ends.place a_ends.place b_ends.gap a_ends.gap two.solid one.solid in
    ap Some (same_of text a_ends.place f g one (subst (λ (p : ℕ). IsOf text p g) here two))

-- tokens from an offset on after so many others, and how they end
record IsReading (text : List ℕ) (from before : ℕ) (pieces : List TokenModel) (end : Option TextFault) : Type 0 where
  tokens : AreTokensFrom text from pieces
  ends : EndsFrom text (end_of from pieces) (before + length pieces) end

behind_first : (text : List ℕ) (from before : ℕ) (piece : TokenModel) (pieces : List TokenModel) (end : Option TextFault) → IsReading text from before (piece ∷ pieces) end → IsReading text piece.stop (suc before) pieces end
behind_first text from before piece pieces end reading =
    let count : before + length (piece ∷ pieces) ≡ suc before + length pieces = omega arith in
    record { tokens = reading.tokens.1.1; ends = subst (λ (n : ℕ). EndsFrom text (end_of piece.stop pieces) n end) count reading.ends }

-- both end with the text, or there are not too many of either
abbrev AreFew : Option TextFault → Option TextFault → ℕ → ℕ → Type 0
AreFew a b m n = ((a ≡ None) × (b ≡ None)) ⊎ ((m ≤ token_limit) × (n ≤ token_limit))

same_reading : (text : List ℕ) (from before : ℕ) (ps qs : List TokenModel) (a b : Option TextFault) → AreFew a b (before + length ps) (before + length qs) → IsReading text from before ps a → IsReading text from before qs b
    → (ps ≡ qs) × (a ≡ b)
same_reading text from before [] [] a b few one two = (refl, same_end text from (before + 0) a b one.ends two.ends)
same_reading text from before [] (q ∷ qs) a b few one two =
    let full = no_more text from (before + 0) a q one.ends two.tokens.0 two.tokens.1.0 in
    ⊎_elim (λ ends. absurd (full.0 ends.0)) (λ within. absurd (omega arith)) few
same_reading text from before (p ∷ ps) [] a b few one two =
    let full = no_more text from (before + 0) b p two.ends one.tokens.0 one.tokens.1.0 in
    ⊎_elim (λ ends. absurd (full.0 ends.1)) (λ within. absurd (omega arith)) few
same_reading text from before (p ∷ ps) (q ∷ qs) a b few one two =
    let p_solid = (of_token text p _ one.tokens.1.0 refl).solid in
    let q_solid = (of_token text q _ two.tokens.1.0 refl).solid in
    let start : p.start ≡ q.start = same_place text from p.start q.start one.tokens.0 two.tokens.0 p_solid q_solid in
    let first : p ≡ q = same_piece text p q q.start start refl one.tokens.1.0.longest two.tokens.1.0.longest in
    let stop : q.stop ≡ p.stop = sym (ap (λ (piece : TokenModel). piece.stop) first) in
    let less : AreFew a b (suc before + length ps) (suc before + length qs) = ⊎_elim (λ ends. inl ends) (λ within. inr (omega arith, omega arith)) few in
    let rest = same_reading text p.stop (suc before) ps qs a b less (behind_first text from before p ps a one)
    (subst (λ (place : ℕ). IsReading text place (suc before) qs b) stop (behind_first text from before q qs b two)) in
    ((λ i. first i ∷ rest.0 i), rest.1)

-- The laws.

reading_of_list : (text : List ℕ) (pieces : List TokenModel) → IsTokenList text pieces → IsReading text 0 0 pieces None
reading_of_list text pieces list = record { tokens = list.tokens; ends = list.ends }

reading_of_fault : (text : List ℕ) (fault : TextFault) (behind : IsFaultBehind text fault) → IsReading text 0 0 behind.before (Some fault)
reading_of_fault text fault behind =
    let count : length behind.before ≡ 0 + length behind.before = omega arith in
    record { tokens = behind.tokens; ends = record { place = behind.place; gap = behind.gap; fault_at = subst (λ (n : ℕ). IsFaultAt text behind.place n fault) count behind.fault_at } }

-- of texts of any length
pub one_list_of : (text : List ℕ) (ps qs : List TokenModel) → AreTokensOf text ps → AreTokensOf text qs → ps ≡ qs
one_list_of text ps qs one two =
    (same_reading text 0 0 ps qs None None (inl (refl, refl)) (record { tokens = one.tokens; ends = one.ends }) (record { tokens = two.tokens; ends = two.ends })).0

pub one_list : (text : List ℕ) (ps qs : List TokenModel) → IsTokenList text ps → IsTokenList text qs → ps ≡ qs
one_list text ps qs one two = one_list_of text ps qs (record { tokens = one.tokens; ends = one.ends }) (record { tokens = two.tokens; ends = two.ends })

pub no_list : (text : List ℕ) (fault : TextFault) → IsTextFault text fault → (pieces : List TokenModel) → IsTokenList text pieces → ⊥
no_list text fault faulty pieces list =
    elim faulty [
      | inl overlong ↦ let long = overlong.long in let short = list.short in omega arith
      | inr behind ↦
          let few : AreFew (Some fault) None (0 + length behind.before) (0 + length pieces) = inr (omega (arith, behind.few), omega (arith, list.few)) in
          let same = (same_reading text 0 0 behind.before pieces (Some fault) None few (reading_of_fault text fault behind) (reading_of_list text pieces list)).1 in
          cc
    ]

pub one_fault : (text : List ℕ) (f g : TextFault) → IsTextFault text f → IsTextFault text g → f ≡ g
one_fault text f g (inl overlong) (inl too) = overlong.whole ∙ sym too.whole
one_fault text f g (inl overlong) (inr behind) = let long = overlong.long in let short = behind.short in absurd (omega arith)
one_fault text f g (inr behind) (inl overlong) = let long = overlong.long in let short = behind.short in absurd (omega arith)
one_fault text f g (inr one) (inr two) =
    let few : AreFew (Some f) (Some g) (0 + length one.before) (0 + length two.before) = inr (omega (arith, one.few), omega (arith, two.few)) in
    let same = (same_reading text 0 0 one.before two.before (Some f) (Some g) few (reading_of_fault text f one) (reading_of_fault text g two)).1 in
    cc
