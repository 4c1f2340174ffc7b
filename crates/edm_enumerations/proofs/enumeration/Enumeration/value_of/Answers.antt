use Rattle.std.proofs.Common.{◌≡◌, ◌∙◌, length, lit<, sym, ap, arith}
use Rattle.std.proofs.lemmas.Str.Pattern.{contains_char}
use Rattle.edm_enumerations.specs.EnumerationModel.{EnumerationModel}
use Rattle.edm_enumerations.specs.EnumerationValue.{pieces_of}
use Rattle.edm_enumerations.proofs.Joining.{joined_value, pieces-alone, pieces-several}
use Rattle.edm_enumerations.proofs.enumeration.Enumeration.value_of.Goals as goal
use Rattle.edm_enumerations.proofs.enumeration.Enumeration.value_of.Goals.{else-not-self-via-then-not-self+else-contains, else-not-self-via-else-not-self}

pub returns-then-contains-clause-only : goal.returns-then-contains-clause-only
returns-then-contains-clause-only c =
    let comma = (contains_char 44 c.args.text.now c.contains.result c.contains.ensures.cases (lit< tt)).0 c.if-contains.true in
    let several = pieces-several c.args.text.now comma.0 comma.1 comma.2 in
    let same : c.self.inside.is_flags ≡ c.args.self.now.is_flags = ap (λ (e : EnumerationModel). e.is_flags) c.self.view_is in
    λ n is. let one : length (pieces_of c.args.text.now) ≡ 1 = is.one_piece (λ yes. cc) in absurd (omega arith)

pub returns-clause-value : goal.returns-clause-value
returns-clause-value c =
    let text = c.args.text.now in
    let same : c.self.inside.is_flags ≡ c.args.self.now.is_flags = ap (λ (e : EnumerationModel). e.is_flags) c.self.view_is in
    joined_value c.args.self.now text c.joined_numbers.result c.joined_numbers.ensures.value (
    elim c.else-not-self.branch [
      | else-not-self-via-then-not-self+else-contains w ↦
          λ none. ap length (pieces-alone text (λ i below is. let there = (contains_char 44 text w.contains.result w.contains.ensures.cases (lit< tt)).1 i below is in absurd (cc)))
      | else-not-self-via-else-not-self w ↦ λ none. absurd (none (sym same ∙ w.if-not-self.false))
    ]
    )
