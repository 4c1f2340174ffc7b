use Rattle.std.proofs.Common.{◌≡◌, ◌<◌, ◌∙◌, sym, ap, subst, ℕ, true, nat_lt, count_by, is_some, map, arith}
use Rattle.std.specs.List.{flat_map}
use Rattle.std.proofs.lemmas.Bool.Decides.{nat_tests}
use Rattle.serde_json.specs.View.{view}
use Rattle.csdl_declarations.specs.Members.{declared_in}
use Rattle.csdl_declarations.specs.TypeKind.{type_kind_in}
use Rattle.csdl_declarations.specs.Declarations.{types_in, types_declared, types_in_order, in_name_order, type_count}
use Rattle.csdl_declarations.specs.DeclaredType.{declared_type, declared_types}
use Rattle.csdl_declarations.specs.DeclaredTypeView.{types_view}
use Rattle.csdl_declarations.specs.private.DocumentView.{members_of, declarations_of, types_of}
use Rattle.csdl_declarations.proofs.Reading.{version_first, count_first, types_given, types_rise}
use Rattle.csdl_declarations.proofs.NameOrder.{by_name}
use Rattle.csdl_declarations.proofs.document.declared_types.Goals as goal

pub returns-then-not-is_version-clause-read : goal.returns-then-not-is_version-clause-read
returns-then-not-is_version-clause-read c = version_first _ (sym c.is_object.ensures ∙ c.if-not-is_object.false) (sym c.is_version.ensures ∙ c.if-not-is_version.true)

pub returns-then-count_types-gt-MAX_TYPES-clause-read : goal.returns-then-count_types-gt-MAX_TYPES-clause-read
returns-then-count_types-gt-MAX_TYPES-clause-read c =
    let d = view c.args.document.now in
    let schemas_again : members_of c.deref-2.result.now ≡ declared_in d = ap members_of c.deref-2.ensures.value ∙ c.in_ok-schemas.ensures.members in
    let total : c.count_types.result ≡ type_count d =
    c.count_types.ensures
    ∙ ap (count_by (λ t. is_some (type_kind_in t.body))) (ap declarations_of c.deref-3.ensures.value ∙ c.in_ok-declarations.ensures ∙ ap (flat_map types_in) schemas_again) in
    let Many : ℕ → Type 0 = λ n. 4096 < n in
    let many : 4096 < type_count d = subst Many total c.if-count_types-gt-MAX_TYPES.true in
    let reported : nat_lt 4096 (type_count d) ≡ true = grind (arith, nat_tests) in
    count_first d (sym c.is_object.ensures ∙ c.if-not-is_object.false) (sym c.is_version.ensures ∙ c.if-not-is_version.false)
    c.in_ok-check_namespaces.ensures.0 reported

pub returns-clause-ordered : goal.returns-clause-ordered
returns-clause-ordered c =
    let d = view c.args.document.now in
    let schemas_again : members_of c.deref-2.result.now ≡ declared_in d = ap members_of c.deref-2.ensures.value ∙ c.in_ok-schemas.ensures.members in
    let declared : declarations_of c.deref-4.result.now ≡ types_declared d =
    ap declarations_of c.deref-4.ensures.value ∙ c.in_ok-declarations.ensures ∙ ap (flat_map types_in) schemas_again in
    let kept : types_of c.in_ok-ordered.ordered.entries ≡ types_in_order d = c.in_ok-ordered.ensures.types ∙ ap in_name_order declared in
    let same : types_view c.in_ok-read_types.field-0.items ≡ declared_types d = c.in_ok-read_types.ensures.read.1 ∙ ap (map declared_type) kept in
    record {
      given = types_given d _ same;
      names = types_rise d _ same (by_name (types_declared d)).rising;
      properties = c.in_ok-read_types.ensures.ordered;
    }
