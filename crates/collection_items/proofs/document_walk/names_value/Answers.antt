use Rattle.std.proofs.Common.{List, ℕ, sym, ap, ◌∙◌}
use Rattle.std.proofs.lemmas.Bool.{true≢false}
use Rattle.std.proofs.lemmas.Cmp.{nat_list_eq_equiv}
use Rattle.std.specs.Cmp.Lexicographic.{pointwise, same_text}
use Rattle.std.specs.Prelude.{codes, nat_eq}
use Rattle.collection_items.proofs.document_walk.names_value.Goals as goal

pub returns-clause-is : goal.returns-clause-is
returns-clause-is c same = same_text c.args.name.now (codes "value") (sym same ∙ c.eq.ensures)

pub returns-clause-is_not : goal.returns-clause-is_not
returns-clause-is_not c other same =
    let value = codes "value" in
    true≢false (sym (ap (λ (s : List ℕ). pointwise nat_eq s value) same ∙ nat_list_eq_equiv.refl value) ∙ sym c.eq.ensures ∙ other)
