-- Days, moments and Guids in their quotes, where they stand in a line.
use Rattle.std.proofs.Common.{◌≡◌, ℕ, ◌+◌, ◌-◌, ◌<◌, ◌≤◌, List, ◌∷◌, length, take, drop, get_or, refl, sym, ap, ◌∙◌, subst, arith}
use Rattle.edm_values.specs.Civil.{Date}
use Rattle.edm_values.specs.DateLiteral.{DateValue}
use Rattle.edm_values.specs.GuidLiteral.{GuidValue}
use Rattle.edm_values.specs.MomentLiteral.{MomentValue}
use Rattle.edm_values.specs.MomentParts.{MomentParts}
use Rattle.json_room.specs.LexemesAt.{IsTextAt}
use Rattle.room_literals.specs.SureTexts.{IsLiteralAt}
use Rattle.room_literals.specs.private.SureTexts.{AreWithin, IsDayAt, IsFractionAt, IsGuidAt, IsMinutesAt, IsOffsetAt}
use Rattle.room_literals.proofs.GuidTexts.{guid_plain}
use Rattle.room_literals.proofs.LiteralTexts.{ArePlain, date_plain, text_quoted}
use Rattle.room_literals.proofs.MomentTexts.{moment_plain, moment_there, piece, piece_long, seconds_there}

module _ (line b : List ℕ) (front : take (length line) b ≡ line) (feed : get_or b (length line) 0 ≡ 10) (room : length line + 64 ≤ length b) (place : ℕ) (begins : place ≤ length line) (opens : get_or b place 0 ≡ 34) where
  -- so many plain bytes between quotes are a literal
  literal_stands : (IsLiteral : List ℕ → Type 0) (n end : ℕ) → n ≤ 60 → end ≡ place + 1 + n → ArePlain (piece b (place + 1) n) → IsLiteral (piece b (place + 1) n) → get_or b end 0 ≡ 34 → IsLiteralAt line place IsLiteral (end + 1)
  literal_stands IsLiteral n end few ends plain is closes =
      let s = piece b (place + 1) n in
      let long : length s ≡ n = piece_long b (place + 1) n (omega (arith, room, begins, few)) in
      let closed : get_or b (place + 1 + length s) 0 ≡ 34 = ap (λ (k : ℕ). get_or b (place + 1 + k) 0) long ∙ ap (λ (k : ℕ). get_or b k 0) (sym ends) ∙ closes in
      let quoted = text_quoted line b front feed room place s begins opens plain (ap (λ (k : ℕ). take k (drop (place + 1) b)) (sym long)) closed in
      let there : place + 1 + length s + 1 ≡ end + 1 = omega (arith, long, ends) in
      record { further = omega (arith, ends); text = s; stands = subst (λ (to : ℕ). IsTextAt line place s to) there quoted; is = is }

  pub day_stands : (end : ℕ) → end ≡ place + 11 → IsDayAt b (place + 1) → get_or b end 0 ≡ 34 → IsLiteralAt line place (λ text. (date : Date) × DateValue text date) (end + 1)
  day_stands end ends day closes =
      let at : end ≡ place + 1 + 10 = omega (arith, ends) in
      literal_stands (λ text. (date : Date) × DateValue text date) 10 end (omega arith) at (subst ArePlain (sym day.1.1) (date_plain day.0 day.1.0)) day closes

  pub guid_stands : (end : ℕ) → end ≡ place + 37 → IsGuidAt b (place + 1) → get_or b end 0 ≡ 34 → IsLiteralAt line place (λ text. (guid : List ℕ) × GuidValue text guid) (end + 1)
  guid_stands end ends is closes =
      let at : end ≡ place + 1 + 36 = omega (arith, ends) in
      literal_stands (λ text. (guid : List ℕ) × GuidValue text guid) 36 end (omega arith) at (guid_plain (piece b (place + 1) 36) is.0 is.1) is closes

  pub moment_stands : (offset end : ℕ) (lows spans : List ℕ) → IsMinutesAt b (place + 1) → AreWithin b (place + 17) (58 ∷ 48 ∷ 48 ∷ lows) (0 ∷ 5 ∷ 9 ∷ spans) → IsFractionAt b (place + 20) offset → IsOffsetAt b offset end → get_or b end 0 ≡ 34
      → IsLiteralAt line place (λ text. (moment : MomentParts) × MomentValue text moment) (end + 1)
  moment_stands offset end lows spans minutes seconds fraction ends closes =
      let here : place + 17 ≡ place + 1 + 16 = omega arith in
      let point : place + 20 ≡ place + 1 + 16 + 3 = omega arith in
      let timed = seconds_there b (place + 1 + 16) offset lows spans (omega (arith, room, begins)) (subst (λ (k : ℕ). AreWithin b k (58 ∷ 48 ∷ 48 ∷ lows) (0 ∷ 5 ∷ 9 ∷ spans)) here seconds) (subst (λ (k : ℕ). IsFractionAt b k offset) point fraction) in
      let n = end - (place + 1) in
      let at : end ≡ place + 1 + n = omega (arith, timed.0, ends.0) in
      let few : n ≤ 60 = omega (arith, timed.1, ends.1) in
      let value = moment_there b (place + 1) offset end (omega (arith, timed.0)) ends.0 (omega (arith, room, begins, at, few)) minutes timed.2 ends in
      literal_stands (λ text. (moment : MomentParts) × MomentValue text moment) n end few at (moment_plain (piece b (place + 1) n) value.0 value.1) value closes
