use Rattle.std.proofs.Common.{refl, ◌<◌, length, rules, ◌∷◌, [], subst, sym}
use Rattle.edm_values.specs.Val.{boolean, text}
use Rattle.odata_functions.specs.LowerCase.{in_lower_case}
use Rattle.odata_signatures.specs.declared.function.Function.{Function}
use Rattle.odata_filter_operations.specs.FunctionGives.{FunctionGives}
use Rattle.odata_filter_operations.specs.Outcome.{gives}
use Rattle.odata_checked_filter.specs.declared.checked_node.NodeKind.{NodeKind}
use Rattle.filter_context.specs.declared.walk_class.WalkClass.{WalkClass}
use Rattle.filter_context.proofs.Spines.{first_part, kind_walks}
use Rattle.filter_context.proofs.Parts.{part_inside}
use Rattle.odata_eval.proofs.kept_operands.text_test_at.Goals as goal

pub overflow_add-place : goal.overflow_add-place
overflow_add-place c =
    let within : c.args.place < length c.args.context.now.list.nodes = part_inside c.args.context.now c.args.place c.requires.stands in
    let same = c.nodes-nodes.ensures in
    search rules

pub kept_text_at-requires : goal.kept_text_at-requires
kept_text_at-requires c =
    first_part c.args.context.now c.args.place WalkClass.Eager (λ leaf. cc)
    (kind_walks c.args.context.now.list c.args.place (NodeKind.Call c.args.function) WalkClass.Eager refl c.requires.here) c.requires.stands

pub last_text_at-requires : goal.last_text_at-requires
last_text_at-requires c = record {
  stands = c.requires.stands;
  here = c.requires.here;
  first = (c.in-Some.text.now, c.in-Some.ensures);
}

pub returns-in-Contains : goal.returns-in-Contains
returns-in-Contains c =
    let finds : FunctionGives c.args.context.now.moment c.args.function (text c.in-Some.text.now ∷ text c.in-Some-last_text_at.part.now ∷ []) (gives (boolean c.contains.result)) =
    subst (λ (f : Function). FunctionGives c.args.context.now.moment f (text c.in-Some.text.now ∷ text c.in-Some-last_text_at.part.now ∷ []) (gives (boolean c.contains.result)))
    (sym c.in-Contains.is) c.contains.ensures in
    c.in-Some-last_text_at.ensures c.in-Some.text.now (gives (boolean c.contains.result)) c.in-Some.ensures finds

pub returns-in-StartsWith : goal.returns-in-StartsWith
returns-in-StartsWith c =
    let begins : FunctionGives c.args.context.now.moment c.args.function (text c.in-Some.text.now ∷ text c.in-Some-last_text_at.part.now ∷ []) (gives (boolean c.starts_with.result)) =
    subst (λ (f : Function). FunctionGives c.args.context.now.moment f (text c.in-Some.text.now ∷ text c.in-Some-last_text_at.part.now ∷ []) (gives (boolean c.starts_with.result)))
    (sym c.in-StartsWith.is) c.starts_with.ensures in
    c.in-Some-last_text_at.ensures c.in-Some.text.now (gives (boolean c.starts_with.result)) c.in-Some.ensures begins

pub returns-in-EndsWith : goal.returns-in-EndsWith
returns-in-EndsWith c =
    let ends : FunctionGives c.args.context.now.moment c.args.function (text c.in-Some.text.now ∷ text c.in-Some-last_text_at.part.now ∷ []) (gives (boolean c.ends_with.result)) =
    subst (λ (f : Function). FunctionGives c.args.context.now.moment f (text c.in-Some.text.now ∷ text c.in-Some-last_text_at.part.now ∷ []) (gives (boolean c.ends_with.result)))
    (sym c.in-EndsWith.is) c.ends_with.ensures in
    c.in-Some-last_text_at.ensures c.in-Some.text.now (gives (boolean c.ends_with.result)) c.in-Some.ensures ends

pub lowered_text_at-requires : goal.lowered_text_at-requires
lowered_text_at-requires c =
    first_part c.args.context.now c.args.place WalkClass.Eager (λ leaf. cc)
    (kind_walks c.args.context.now.list c.args.place (NodeKind.Call c.args.function) WalkClass.Eager refl c.requires.here) c.requires.stands

pub last_text_at-requires-2 : goal.last_text_at-requires-2
last_text_at-requires-2 c = record {
  stands = c.requires.stands;
  here = c.requires.here;
  first = (in_lower_case c.in-Some-lowered_text_at.text.now, c.in-Some-lowered_text_at.ensures);
}

pub returns : goal.returns
returns c =
    let begins : FunctionGives c.args.context.now.moment c.args.function (text (in_lower_case c.in-Some-lowered_text_at.text.now) ∷ text c.in-Some-last_text_at-2.part.now ∷ []) (gives (boolean c.lower_starts_with.result)) =
    subst (λ (f : Function). FunctionGives c.args.context.now.moment f (text (in_lower_case c.in-Some-lowered_text_at.text.now) ∷ text c.in-Some-last_text_at-2.part.now ∷ []) (gives (boolean c.lower_starts_with.result)))
    (sym c.in-StartsWith-function.is) c.lower_starts_with.ensures in
    c.in-Some-last_text_at-2.ensures (in_lower_case c.in-Some-lowered_text_at.text.now) (gives (boolean c.lower_starts_with.result)) c.in-Some-lowered_text_at.ensures begins
