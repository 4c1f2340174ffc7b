use Rattle.std.proofs.Common.{◌≡◌, ◌∷◌, ◌∙◌, ℕ, ℤ, List, Some, FitsSigned, is_some, string_bytes, rules, sym, ap, subst}
use Rattle.std.specs.Int.{w64}
use Rattle.std.specs.List.{flat_map}
use Rattle.std.proofs.lemmas.Int.{to_z-of_z}
use Rattle.serde_json.specs.Data.{Data}
use Rattle.serde_json.specs.View.{view, members_view}
use Rattle.serde_json.proofs.Views.{Entry}
use Rattle.edm_enumerations.specs.EnumerationModel.{with_member}
use Rattle.csdl_declarations.specs.Fault.{bad_enum_member}
use Rattle.csdl_declarations.specs.EnumerationDeclaration.{member_faults, member_number}
use Rattle.csdl_declarations.specs.Members.{declared_among}
use Rattle.csdl_declarations.proofs.Reading.{declared_in_order, declared_kept, faultless_step, unless_none}
use Rattle.csdl_declarations.proofs.EnumerationNumbers.{IsReadSoFar, read_more}
use Rattle.csdl_declarations.proofs.read_enumeration.read_members.Goals as goal

pub loop-key-preserved-in_ok-add_member : goal.loop-key-preserved-in_ok-add_member
loop-key-preserved-in_ok-add_member c =
    let e : Entry = (c.in-Some.key.now, c.in-Some.value.now) in
    let name = c.as_str-name.result.now in
    let m : List ℕ × Data = (name, view c.in-Some.value.now) in
    let t = c.args.underlying in
    let F = member_faults c.args.owner.now t in
    let all = declared_among (members_view c.args.members.now.entries) in
    let rest = declared_among (members_view c.next.new.self) in
    let next : c.loop-key.key-iterator ≡ e ∷ c.next.new.self = search rules in
    let step : declared_among (members_view c.loop-key.key-iterator) ≡ m ∷ rest =
    ap (λ es. declared_among (members_view es)) next
    ∙ declared_kept name (string_bytes c.in-Some.key.now) (view c.in-Some.value.now) (members_view c.next.new.self) c.as_str-name.ensures.value
    (sym c.is_read_over.ensures ∙ c.if-not-is_read_over.true) in
    let fits : FitsSigned w64 c.in-Some-member_number.number = search rules in
    let numbered : member_number t m ≡ Some c.in-Some-member_number.number = sym c.member_number.ensures.value ∙ c.in-Some-member_number.is in (
      faultless_step F m rest _
          (unless_none (is_some (member_number t m)) (bad_enum_member c.args.owner.now name) (ap is_some numbered))
          (ap (flat_map F) (sym step) ∙ c.loop-key.invariant.0),
      read_more c.loop-key.enumeration c.add_member.new.self t c.args.is_flags m rest all _ c.in-Some-member_number.number
          (subst (λ ms. IsReadSoFar c.loop-key.enumeration t c.args.is_flags ms all) step c.loop-key.invariant.1)
          (declared_in_order c.args.members.now.entries c.iter-key-items.ensures.ordered) c.in_ok-to_owned.ensures.ok numbered
          (c.in_ok-add_member.ensures.ok ∙ ap (λ (n : ℤ). with_member c.loop-key.enumeration (string_bytes c.in_ok-to_owned.field-0) n) (to_z-of_z w64 c.in-Some-member_number.number fits)),
    )
