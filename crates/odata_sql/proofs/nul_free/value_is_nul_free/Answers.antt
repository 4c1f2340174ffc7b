use Rattle.std.proofs.Common.{◌↔◌, ℕ, List, IsTrue, refl, sym, subst}
use Rattle.edm_values.specs.declared.value.Value.{Value}
use Rattle.sql_meaning.specs.ParameterGives.{HoldsNul}
use Rattle.odata_sql.specs.Refusals.{HasNoNul}
use Rattle.odata_sql.proofs.NulFree.{other_free}
use Rattle.odata_sql.proofs.nul_free.value_is_nul_free.Goals as goal

pub returns-in-Text : goal.returns-in-Text
returns-in-Text c =
    subst (λ (value : Value). IsTrue c.text_is_nul_free.result ↔ HasNoNul value) (sym c.in-Text.is)
    (subst (λ (bytes : List ℕ). IsTrue c.text_is_nul_free.result ↔ ¬ HoldsNul bytes) c.as_str.ensures.value c.text_is_nul_free.ensures)

pub returns-in_default : goal.returns-in_default
returns-in_default c = (λ is. other_free c.args.value.now c.in_default.not-Text, λ free. refl)
