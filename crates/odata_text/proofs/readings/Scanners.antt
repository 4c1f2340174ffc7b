-- What a scanner has read, one token after another.
use Rattle.odata_text.proofs.Common.{◌≡◌, IsUtf8, IsCharBoundary, inr, ℕ, ◌+◌, List, length, slice_range, arith, refl, sym, ◌∙◌, subst, length_push, TokenModel, AreTokensFrom, IsFaultAt, IsGap, IsTokenAt, IsTokenList, token_limit, TextFault, TooLong}
use Rattle.odata_text.specs.Scanning.{HasRead, IsFurther, IsReading, text_of, token_of}
use Rattle.odata_text.specs.Tokens.{IsTextFault}
use Rattle.odata_text.specs.declared.scanner.Scanner.{Scanner}
use Rattle.odata_text.specs.declared.token.TokenKind.{TokenKind}
use Rattle.odata_text.specs.private.PlainTokens.{IsTokenBetween}
use Rattle.odata_text.proofs.readings.Places.{boundary-gap}
use Rattle.odata_text.proofs.readings.Scans.{IsInside-token, end_of-push, tokens-push}

-- a token is reported by its kind and where it lies
pub between-from_token : (text : List ℕ) (token : TokenModel) (start : ℕ) → token.start ≡ start → IsTokenAt text token → IsTokenBetween text token.kind start token.stop
between-from_token text token start here is =
    subst (λ (k : ℕ). IsTokenBetween text token.kind k token.stop) here
    (record { longest = record { order = is.longest.order; longest = is.longest.longest; bytes = refl }; ends = is.ends })

-- a token after white space begins between two characters
pub begins_after_gap : (text bytes : List ℕ) (from to : ℕ) → bytes ≡ text → IsUtf8 bytes → IsCharBoundary text from → IsGap bytes from to → IsCharBoundary text to
begins_after_gap text bytes from to same utf8 boundary gap =
    boundary-gap text from to (subst IsUtf8 same utf8) boundary (subst (λ (xs : List ℕ). IsGap xs from to) same gap)

-- one token more
pub one_further : (old new : Scanner) → text_of new ≡ text_of old → new.count ≡ old.count + 1 → IsGap (text_of old) old.stop new.start → IsTokenBetween (text_of old) new.kind new.start new.stop
    → IsFurther old new
one_further old new same counted gap token =
    let inside = IsInside-token (text_of old) (record { kind = new.kind; start = new.start; stop = new.stop; text = slice_range (text_of old) new.start new.stop }) token in
    let some = inside.nonempty in
    let order = gap.order in
    record {
      text = same;
      further = omega arith;
      read = λ list has.
          let size = length_push list (token_of new) in
          let before = has.count in
          let here : IsGap (text_of new) old.stop new.start = subst (λ (xs : List ℕ). IsGap xs old.stop new.start) (sym same) gap in
          let tokens : AreTokensFrom (text_of new) 0 list = subst (λ (xs : List ℕ). AreTokensFrom xs 0 list) (sym same) has.tokens in
          record {
            tokens = tokens-push (text_of new) 0 list (token_of new) tokens (subst (λ (k : ℕ). IsGap (text_of new) k new.start) (sym has.stop) here) (subst (λ (xs : List ℕ). IsTokenBetween xs new.kind new.start new.stop) (sym same) token);
            stop = end_of-push 0 list (token_of new);
            count = omega arith;
          };
    }

-- the text is at its end
pub all_read : (s : Scanner) (list : List TokenModel) → IsReading s → IsGap (text_of s) s.stop (length (text_of s)) → HasRead s list → IsTokenList (text_of s) list
all_read s list reading gap has =
    let few = reading.few in
    let count = has.count in
    record { short = reading.short; few = omega arith; tokens = has.tokens; ends = subst (λ (k : ℕ). IsGap (text_of s) k (length (text_of s))) (sym has.stop) gap }

-- a fault after white space
pub first_fault : (s : Scanner) (list : List TokenModel) (start : ℕ) (fault : TextFault) → IsReading s → IsGap (text_of s) s.stop start → IsFaultAt (text_of s) start (length list) fault → HasRead s list → IsTextFault (text_of s) fault
first_fault s list start fault reading gap at_start has =
    let few = reading.few in
    let count = has.count in
    inr (record {
      short = reading.short;
      before = list;
      few = omega arith;
      tokens = has.tokens;
      place = start;
      gap = subst (λ (k : ℕ). IsGap (text_of s) k start) (sym has.stop) gap;
      fault_at = at_start;
    })

-- a token too many
pub too_many : (s : Scanner) (list : List TokenModel) (kind : TokenKind) (start stop : ℕ) → IsReading s → IsGap (text_of s) s.stop start → IsTokenBetween (text_of s) kind start stop → s.count ≡ token_limit → HasRead s list
    → IsTextFault (text_of s) (TooLong (record { start = start; stop = stop }))
too_many s list kind start stop reading gap token full has =
    first_fault s list start (TooLong (record { start = start; stop = stop })) reading gap
    (refl, record { count = has.count ∙ full; last = record { kind = kind; start = start; stop = stop; text = slice_range (text_of s) start stop }; token = token; start = refl; stop = refl }) has

-- the tokens of a list are those that a scanner over the text has read
pub record IsCollected (text : List ℕ) (s : Scanner) (list : List TokenModel) : Type 0 where
  pub reading : IsReading s
  pub has : HasRead s list
  pub same : text_of s ≡ text
