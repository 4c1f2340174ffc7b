use Rattle.std.proofs.Common.{ℕ, List, Bor, arith}
use Rattle.sql_tree.proofs.Elements.{left_end, left_first, left_not, left_on}
use Rattle.sql_meaning.specs.ParameterGives.{HoldsNul}
use Rattle.odata_sql.proofs.NulFree.{of_mapped}
use Rattle.odata_sql.proofs.nul_free.names_are_nul_free.Goals as goal

abbrev Free : List ℕ → Type 0
Free bytes = ¬ HoldsNul bytes

abbrev FreeName : Bor (List ℕ) → Type 0
FreeName name = Free name.now

pub loop-at-init : goal.loop-at-init
loop-at-init c = left_first FreeName c.args.names.now

pub loop-at-preserved : goal.loop-at-preserved
loop-at-preserved c =
    let names = c.args.names.now in
    left_on FreeName names c.loop-at.at c.name_at.result c.name_at.ensures c.loop-at.invariant (c.text_is_nul_free.ensures.0 c.if-not-text_is_nul_free.false)

pub returns-then-not-text_is_nul_free : goal.returns-then-not-text_is_nul_free
returns-then-not-text_is_nul_free c =
    let names = c.args.names.now in
    let is = left_not FreeName names c.loop-at.at c.name_at.result c.name_at.ensures c.loop-at.invariant c.text_is_nul_free.result c.text_is_nul_free.ensures c.if-not-text_is_nul_free.true in
    let same = of_mapped Free (λ (name : Bor (List ℕ)). name.now) names in
    (λ holds. same.0 (is.0 holds), λ all. is.1 (same.1 all))

pub returns : goal.returns
returns c =
    let is = left_end FreeName c.args.names.now c.loop-at.at (omega arith) c.loop-at.invariant in
    let same = of_mapped Free (λ (name : Bor (List ℕ)). name.now) c.args.names.now in
    (λ holds. same.0 (is.0 holds), λ all. is.1 (same.1 all))
