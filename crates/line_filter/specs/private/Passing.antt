-- What becomes of a judgment where lines at fault may be passed over. Private clauses alone cite this.
use Rattle.std.specs.Prelude.{◌≡◌, ◌⊎◌}
use Rattle.line_filter.specs.declared.judge.Judgment.{Judgment}

-- it stays, or it is a fault, and the line is left out
abbrev pub IsPassedOn : {F : Type 0} → Judgment F → Judgment F → Type 0
IsPassedOn {F} judgment result =
    (result ≡ judgment) ⊎ ((result ≡ Judgment.LeftOut) × ((fault : F) × (judgment ≡ Judgment.Fault fault)))
