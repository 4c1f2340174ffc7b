-- For private clauses: how deeply trees nest that stand one after another.
use Rattle.std.specs.Prelude.{◌≡◌, ◌-◌, ◌^◌, ℕ, List, [], ◌∷◌, min}
use Rattle.sql_tree.specs.ParserDepth.{symbols_of}
use Rattle.sql_tree.specs.Term.{Terms, no_terms, more_terms}

abbrev pub joined : Terms → Terms → Terms
joined no_terms more = more
joined (more_terms first rest) more = more_terms first (joined rest more)

-- for each term the number of its symbols, or the greatest number that there is
abbrev pub AreDepths : List ℕ → Terms → Type 0
AreDepths [] no_terms = Unit {0}
AreDepths (depth ∷ depths) (more_terms first rest) =
    (depth ≡ min (symbols_of first) (2 ^ 64 - 1)) × AreDepths depths rest
AreDepths depths terms = ⊥
