use Rattle.std.proofs.Common.{◌≡◌, ◌∙◌, ◌++◌, ◌∷◌, [], ℕ, ℤ, List, true, false, map, is_some, sym, ap, subst, string_bytes}
use Rattle.std.specs.Int.{w64}
use Rattle.std.specs.Int.{cast_signed as to_z, cast_unsigned as of_z}
use Rattle.std.specs.String.{string_eq}
use Rattle.indexmap.specs.IndexMap.{get_by_text}
use Rattle.indexmap.proofs.CallerLemmas.{insert_entry-new}
use Rattle.std.specs.List.{AllByRecursion}
use Rattle.std.proofs.lemmas.Int.{to_z-of_z}
use Rattle.edm_values.specs.NumberTypes.{IsNumberOf}
use Rattle.edm_enumerations.specs.EnumerationModel.{EnumerationModel, MemberModel, number_in}
use Rattle.edm_enumerations.specs.private.Enumeration.{member_model}
use Rattle.edm_enumerations.proofs.Members.{each_pushed, map-pushed, not_some, number_in-entries, pushed_member, with_member-there, with_member-new}
use Rattle.edm_enumerations.proofs.enumeration.Enumeration.add_member.Goals as goal

pub returns-then-contains_key-clause-ok : goal.returns-then-contains_key-clause-ok
returns-then-contains_key-clause-ok c =
    let name = string_bytes c.args.name in
    let es = c.self.inside.numbers_by_name.entries in
    let there : is_some (number_in c.args.self.now.members name) ≡ true =
    ap (λ (e : EnumerationModel). is_some (number_in e.members name)) (sym c.self.view_is)
    ∙ ap (λ (text : List ℕ). is_some (number_in (map member_model es) text)) (sym c.as_str.ensures.value)
    ∙ ap is_some (number_in-entries c.as_str.result.now es)
    ∙ sym c.contains_key.ensures
    ∙ c.if-contains_key.true in
    with_member-there c.args.self.now name c.args.number there

pub invariant_of-self : goal.invariant_of-self
invariant_of-self c = record {
  type_of_numbers = c.self.invariant.type_of_numbers;
  within = subst (λ es. AllByRecursion (λ e. IsNumberOf c.self.inside.underlying e.1) es) (sym c.in_err-insert.ensures.err) c.self.invariant.within;
}

pub invariant_of-self-2 : goal.invariant_of-self-2
invariant_of-self-2 c =
    let old = c.self.inside.numbers_by_name in
    let text = ap (λ (text : List ℕ). is_some (get_by_text old text)) (sym c.as_str.ensures.value) in
    let added = insert_entry-new string_eq old c.args.name (to_z w64 (of_z w64 c.args.number)) (not_some _ (text ∙ sym c.contains_key.ensures ∙ c.if-contains_key.false)) in
    let is_of : IsNumberOf c.self.inside.underlying (to_z w64 (of_z w64 c.args.number)) =
    subst (IsNumberOf c.self.inside.underlying) (sym (to_z-of_z w64 c.args.number c.ranges.number)) (subst (λ e. IsNumberOf e.underlying c.args.number) (sym c.self.view_is) c.requires) in record {
      type_of_numbers = c.self.invariant.type_of_numbers;
      within =
          subst (λ es. AllByRecursion (λ e. IsNumberOf c.self.inside.underlying e.1) es) (sym (c.in_ok-insert.ensures.entries ∙ added))
          (each_pushed (λ e. IsNumberOf c.self.inside.underlying e.1) old.entries _ c.self.invariant.within is_of);
    }

pub returns-clause-ok : goal.returns-clause-ok
returns-clause-ok c =
    let old = c.self.inside.numbers_by_name in
    let name = string_bytes c.args.name in
    let text = ap (λ (text : List ℕ). is_some (get_by_text old text)) (sym c.as_str.ensures.value) in
    let absent = text ∙ sym c.contains_key.ensures ∙ c.if-contains_key.false in
    let added = insert_entry-new string_eq old c.args.name (to_z w64 (of_z w64 c.args.number)) (not_some _ absent) in
    let none : is_some (number_in c.args.self.now.members name) ≡ false =
    ap (λ (e : EnumerationModel). is_some (number_in e.members name)) (sym c.self.view_is)
    ∙ ap is_some (number_in-entries name old.entries)
    ∙ absent in
    let with : List MemberModel → EnumerationModel = λ ms. record { underlying = c.self.inside.underlying; is_flags = c.self.inside.is_flags; members = ms } in
    ap with
    (ap (map member_model) (c.in_ok-insert.ensures.entries ∙ added)
    ∙ map-pushed old.entries _
    ∙ ap (λ (n : ℤ). map member_model old.entries ++ record { name = name; number = n } ∷ []) (to_z-of_z w64 c.args.number c.ranges.number))
    ∙ ap (λ (e : EnumerationModel). pushed_member e name c.args.number) c.self.view_is
    ∙ with_member-new c.args.self.now name c.args.number none
