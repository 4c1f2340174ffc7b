use Rattle.std.proofs.Common.{◌∙◌, IfSome, sym, ap, subst, nat_eq, string_bytes}
use Rattle.std.specs.Cmp.Lexicographic.{pointwise}
use Rattle.edm_values.specs.NumberTypes.{IsNumberOf}
use Rattle.edm_enumerations.specs.EnumerationModel.{number_in}
use Rattle.edm_enumerations.proofs.Members.{each_found, number_in-entries}
use Rattle.edm_enumerations.proofs.enumeration.Enumeration.number_of.Goals as goal

pub returns-clause-value : goal.returns-clause-value
returns-clause-value c =
    c.copied.ensures ∙ c.get.ensures.value
    ∙ sym (number_in-entries c.args.name.now c.self.inside.numbers_by_name.entries)
    ∙ ap (λ e. number_in e.members c.args.name.now) c.self.view_is

pub returns-clause-within : goal.returns-clause-within
returns-clause-within c =
    let found = each_found (IsNumberOf c.self.inside.underlying) (λ k. pointwise nat_eq c.args.name.now (string_bytes k)) c.self.inside.numbers_by_name.entries c.self.invariant.within in
    subst (λ e. IfSome c.copied.result (IsNumberOf e.underlying)) c.self.view_is
    (subst (λ o. IfSome o (IsNumberOf c.self.inside.underlying)) (sym (c.copied.ensures ∙ c.get.ensures.value)) found)
