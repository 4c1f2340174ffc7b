-- The code of `in` whose left side is null or structured: it evaluates to no fault and is not bound.
use Rattle.sql_forms.proofs.Common.{◌≡◌, inl, ◌+◌, ℕ, List, None, refl, sym, ap, subst, ◌∙◌, Val, boolean, null, Outcome, gives, Draft, Operand, Source, NoTruth, carrier_in, fault_else, AsCode, EqualCodesOrNull, HasMemberHas, ListHas, any_of, some_of, IsOrNull, SourceHas, IsAskedOf, OfPlace, Puts, Question, World, puts_as}
use Rattle.sql_outcomes.proofs.outcomes.CodeTables.{coded, Coded}
use Rattle.sql_forms.proofs.puts.EqualCodesPut.{any_coded, each_coded}
use Rattle.sql_forms.proofs.puts.FaultyComparisonsPut.{OrCode, or_code_value}
use Rattle.sql_outcomes.specs.NodesGo.{InPathComes}
use Rattle.sql_forms.proofs.puts.InPathPut.{marked_parts}
use Rattle.sql_outcomes.proofs.outcomes.UnlessMissing.{WholeHas}

module _ (question : Question) (place : ℕ) (left : Operand) (no_truth : NoTruth left) (none : carrier_in left ≡ None) where
  -- before a list
  pub list_code_plain_put : (items : List Operand) → ((world : World) (o : Outcome) → IsAskedOf question world → OfPlace question.filter place world o → ListHas question.filter left items world o) → (old new : Draft)
      → Puts question old new (EqualCodesOrNull question.filter left items) AsCode → Puts question old new (OfPlace question.filter place) Coded
  list_code_plain_put items comes old new inner =
      puts_as question old new (EqualCodesOrNull question.filter left items) (OfPlace question.filter place) AsCode Coded inner
      (λ world o is has.
      let come = comes world o is.seen has in
      let v = come.left_plain no_truth none in
      let whole : o ≡ any_of come.outcomes = come.is ∙ ap (λ (p : Outcome). fault_else p (any_of come.outcomes)) v.1 in (
        any_of come.outcomes,
        inl (record { left_outcome = come.left_outcome; outcomes = come.outcomes; each = come.each; is = refl }),
        λ x form. form.0 (any_coded come.outcomes (each_coded question.filter left come.left_outcome items world come.outcomes come.each)) ∙ ap coded (sym whole),
      ))

  or_null_code : (c inner : Val) (o x : Outcome) → IsOrNull c o (gives inner) → OrCode o x → Coded o x
  or_null_code null inner o x is form = or_code_value o null x is form
  or_null_code _ inner o x is form = or_code_value o inner x is form

  -- before a path
  pub in_path_code_plain_put : (base path : ℕ) → left.source ≡ Source.Node (place + 1)
      → ((world : World) (o : Outcome) → IsAskedOf question world → OfPlace question.filter place world o → InPathComes question place base left world o) → (old new : Draft)
      → Puts question old new (WholeHas question base path (HasMemberHas question.filter left base) (marked_parts question base left)) OrCode → Puts question old new (OfPlace question.filter place) Coded
  in_path_code_plain_put base path source comes old new inner =
      puts_as question old new (WholeHas question base path (HasMemberHas question.filter left base) (marked_parts question base left)) (OfPlace question.filter place) OrCode Coded inner
      (λ world o is has.
      let come = comes world o is.seen has in
      let v = come.left_plain no_truth none in
      let flags = come.of_value v.0 v.1 in
      let held = come.held in (
        o,
        (
          gives (boolean (some_of flags.0)),
          inl (
            held,
            v.0,
            record { has = subst (λ (s : Source). SourceHas question.filter s world (gives v.0)) (sym source) (subst (OfPlace question.filter (place + 1) world) v.1 come.left_there); fits = come.left_fits v.0 v.1 },
            flags.0,
            flags.1,
            refl,
          ),
          flags.2,
        ),
        λ x form. or_null_code held.c (boolean (some_of flags.0)) o x flags.2 form,
      ))
