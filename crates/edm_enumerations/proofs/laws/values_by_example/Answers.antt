use Rattle.std.proofs.Common.{refl, pos, inl, inr, codes, rules, arith, lit<}
use Rattle.edm_values.specs.IntLiteral.{IntValue}
use Rattle.edm_enumerations.proofs.laws.values_by_example.Goals as goal

pub returns-clause-one : goal.returns-clause-one
returns-clause-one c = record { joined = (pos 2, (λ same. cc, refl), refl); one_piece = λ none. refl }

pub returns-clause-several : goal.returns-clause-several
returns-clause-several c = record {
  joined = (pos 1, (λ same. cc, refl), (pos 4, (λ same. cc, refl), refl));
  one_piece = λ none. absurd (none refl);
}

pub returns-clause-number : goal.returns-clause-number
returns-clause-number c =
    let value : IntValue (codes "8") (pos 8) = (inr (inr (search rules, refl)), record { sfits = lit< tt }) in
    record { joined = (pos 8, (λ same. cc, (value, record { sfits = lit< tt })), refl); one_piece = λ none. refl }

pub returns-clause-empty_piece : goal.returns-clause-empty_piece
returns-clause-empty_piece c = λ n is. is.joined.2.1.0 refl

pub returns-clause-tab : goal.returns-clause-tab
returns-clause-tab c = λ n is.
    elim is.joined.1.1.0.0 [
      | inl plus ↦ omega (arith, plus.0)
      | inr rest ↦ elim rest [ inl minus ↦ omega (arith, minus.0) | inr digits ↦ omega (arith, digits.0.1.0) ]
    ]
