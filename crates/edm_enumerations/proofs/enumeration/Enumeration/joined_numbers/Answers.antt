use Rattle.std.proofs.Common.{◌≡◌, ◌∙◌, [], ℕ, ℤ, pos, Some, lit<, rules, refl, sym, ap, subst}
use Rattle.std.specs.Int.{w64, cast_signed, cast_unsigned, int_bit_or}
use Rattle.std.specs.Prelude.{bit_or}
use Rattle.std.proofs.lemmas.Str.Pattern.{split_parts}
use Rattle.std.proofs.Math.Facts.{of_z-to_z}
use Rattle.edm_values.specs.NumberTypes.{IsNumberOf}
use Rattle.edm_enumerations.specs.EnumerationValue.{JoinsTo, pieces_of}
use Rattle.edm_enumerations.proofs.Joining.{IsJoinedSoFar, joined_none, joined_nowhere, joined_more, joined_all, joined_behind, pieces-first, pieces-alone}
use Rattle.edm_enumerations.proofs.Ranges.{or_within}
use Rattle.edm_enumerations.proofs.enumeration.Enumeration.joined_numbers.Goals as goal

pub loop-piece-init : goal.loop-piece-init
loop-piece-init c = (search rules, joined_none c.args.self.now c.args.text.now c.requires)

pub returns-in-None-clause-only : goal.returns-in-None-clause-only
returns-in-None-clause-only c =
    let parts = rw c.in-Some.is at (split_parts 44 c.loop-piece.rest.now c.split_once.result c.split_once.ensures.cases (lit< tt)) in
    let cut = ap pieces_of parts.0 ∙ pieces-first c.in-Some.piece.now c.in-Some.behind.now parts.1 in
    λ n whole.
    absurd (joined_nowhere c.args.self.now c.args.text.now c.loop-piece.rest.now c.in-Some.piece.now (pieces_of c.in-Some.behind.now) (cast_signed w64 c.loop-piece.joined-bits) c.loop-piece.invariant.1 cut
    (λ k is. let none = c.piece_number.ensures.only k is in cc) n whole)

pub loop-piece-preserved : goal.loop-piece-preserved
loop-piece-preserved c =
    let parts = rw c.in-Some.is at (split_parts 44 c.loop-piece.rest.now c.split_once.result c.split_once.ensures.cases (lit< tt)) in
    let cut = ap pieces_of parts.0 ∙ pieces-first c.in-Some.piece.now c.in-Some.behind.now parts.1 in
    let m = c.in-Some-piece_number.number in (
      search rules,
      subst (λ (bits : ℕ). IsJoinedSoFar c.args.self.now c.args.text.now c.in-Some.behind.now (cast_signed w64 (bit_or bits (cast_unsigned w64 m))))
          (of_z-to_z c.loop-piece.auto.joined-fits)
          (joined_more c.args.self.now c.args.text.now c.loop-piece.rest.now c.in-Some.piece.now c.in-Some.behind.now (cast_signed w64 c.loop-piece.joined-bits) m c.loop-piece.invariant.1 cut
          c.in-Some-piece_number.ensures.value (λ k is. let same = c.piece_number.ensures.only k is in cc) c.in-Some-piece_number.ensures.within),
    )

pub returns-in-Some-piece_number-2-clause-value : goal.returns-in-Some-piece_number-2-clause-value
returns-in-Some-piece_number-2-clause-value c =
    let plain = rw c.in_default.is at (split_parts 44 c.loop-piece.rest.now c.split_once.result c.split_once.ensures.cases (lit< tt)) in
    let m = c.in-Some-piece_number-2.number in
    subst (λ (bits : ℕ). JoinsTo c.args.self.now (pieces_of c.args.text.now) (pos 0) (cast_signed w64 (bit_or bits (cast_unsigned w64 m))))
    (of_z-to_z c.loop-piece.auto.joined-fits)
    (joined_all c.args.self.now c.args.text.now c.loop-piece.rest.now c.loop-piece.rest.now [] (cast_signed w64 c.loop-piece.joined-bits) c.loop-piece.invariant.1 (pieces-alone c.loop-piece.rest.now plain)
    m c.in-Some-piece_number-2.ensures.value (λ k is. let same = c.piece_number-2.ensures.only k is in cc) _ refl)

pub returns-in-Some-piece_number-2-clause-only : goal.returns-in-Some-piece_number-2-clause-only
returns-in-Some-piece_number-2-clause-only c =
    let plain = rw c.in_default.is at (split_parts 44 c.loop-piece.rest.now c.split_once.result c.split_once.ensures.cases (lit< tt)) in
    let m = c.in-Some-piece_number-2.number in
    λ n whole.
    let is : int_bit_or w64 (cast_signed w64 c.loop-piece.joined-bits) m ≡ n =
    joined_behind c.args.self.now c.args.text.now c.loop-piece.rest.now c.loop-piece.rest.now [] (cast_signed w64 c.loop-piece.joined-bits) c.loop-piece.invariant.1 (pieces-alone c.loop-piece.rest.now plain)
    m c.in-Some-piece_number-2.ensures.value (λ k is. let same = c.piece_number-2.ensures.only k is in cc) n whole in
    ap (λ (z : ℤ). Some z) (ap (λ (bits : ℕ). cast_signed w64 (bit_or bits (cast_unsigned w64 m))) (sym (of_z-to_z c.loop-piece.auto.joined-fits)) ∙ is)

pub returns-in-Some-piece_number-2-clause-within :
    goal.returns-in-Some-piece_number-2-clause-within
returns-in-Some-piece_number-2-clause-within c =
    let m = c.in-Some-piece_number-2.number in
    subst (λ (bits : ℕ). IsNumberOf c.args.self.now.underlying (cast_signed w64 (bit_or bits (cast_unsigned w64 m))))
    (of_z-to_z c.loop-piece.auto.joined-fits)
    (or_within c.args.self.now.underlying (cast_signed w64 c.loop-piece.joined-bits) m c.loop-piece.invariant.1.within c.in-Some-piece_number-2.ensures.within)

pub returns-in-None-piece_number-clause-only : goal.returns-in-None-piece_number-clause-only
returns-in-None-piece_number-clause-only c =
    let plain = rw c.in_default.is at (split_parts 44 c.loop-piece.rest.now c.split_once.result c.split_once.ensures.cases (lit< tt)) in
    λ n whole.
    absurd (joined_nowhere c.args.self.now c.args.text.now c.loop-piece.rest.now c.loop-piece.rest.now [] (cast_signed w64 c.loop-piece.joined-bits) c.loop-piece.invariant.1 (pieces-alone c.loop-piece.rest.now plain)
    (λ k is. let none = c.piece_number-2.ensures.only k is in cc) n whole)
