use Rattle.std.proofs.Common.{◌≡◌, ◌∙◌, ◌∷◌, [], ◌<◌, ◌≤◌, ◌+◌, ℕ, List, ap, arith, map, refl, slice_get, string_bytes, subst, sym}
use Rattle.std.proofs.lemmas.List.{append-nil}
use Rattle.csdl_schema.specs.ExprType.{null_type}
use Rattle.odata_signatures.specs.NeededPaths.{path_of}
use Rattle.odata_signatures.specs.Typed.{with_variable}
use Rattle.odata_checked_filter.specs.private.LambdaLines.{AreInLine}
use Rattle.odata_checked_filter.specs.private.PropertyPaths.{AreBound, NamedText, with_texts}
use Rattle.odata_checked_filter.proofs.flat.Places.{found_before, same_found}
use Rattle.odata_checked_filter.proofs.named.Texts.{bound_in-Bound}
use Rattle.odata_checked_filter.proofs.named.Trees.{IsLeft, base_line, first_of, lambda_of, line_below, no_more, past_lambda, past_node}
use Rattle.odata_checked_filter.proofs.flat.Standing.{between_last, between_onward, between_within, line_onward, line_within}
use Rattle.odata_checked_filter.proofs.property_paths.+put_paths.Goals as goal

pub loop-place-init : goal.loop-place-init
loop-place-init t c = (omega arith, λ trees line. ((trees, line), λ scope paths are. record { rest = trees; line = line; put = refl }))

pub path_at-requires : goal.path_at-requires
path_at-requires t c =
    let list = c.args.context.now.list.now in
    let left = c.loop-place.invariant.1 c.requires.0 c.requires.1 in
    let first = first_of list c.loop-place.place c.args.stop left.0.0 left.0.1 c.loop-place-test.true in
    record { stop = first.middle; tree = first.tree; stands = first.stands }

pub node-node-requires : goal.node-node-requires
node-node-requires t c =
    let list = c.args.context.now.list.now in
    let left = c.loop-place.invariant.1 c.requires.0 c.requires.1 in
    line_within list c.loop-place.place c.args.stop left.0.0 left.0.1 c.loop-place-test.true

pub node-body-requires : goal.node-body-requires
node-body-requires t c =
    let list = c.args.context.now.list.now in
    let place = c.loop-place.place in
    let left = c.loop-place.invariant.1 c.requires.0 c.requires.1 in
    let first = first_of list place c.args.stop left.0.0 left.0.1 c.loop-place-test.true in
    let operator = lambda_of list place first.middle first.tree c.node-node.result first.stands c.node-node.ensures (sym c.is_lambda.ensures ∙ c.if-is_lambda.true) in
    between_within list (place + 1) operator.middle operator.base operator.base_stands

pub put_paths-requires : goal.put_paths-requires
put_paths-requires t c =
    let list = c.args.context.now.list.now in
    let place = c.loop-place.place in
    let left = c.loop-place.invariant.1 c.requires.0 c.requires.1 in
    let first = first_of list place c.args.stop left.0.0 left.0.1 c.loop-place-test.true in
    let operator = lambda_of list place first.middle first.tree c.node-node.result first.stands c.node-node.ensures (sym c.is_lambda.ensures ∙ c.if-is_lambda.true) in
    let last : c.node-body.result.stop ≡ operator.middle = between_last list (place + 1) operator.middle operator.base c.node-body.result operator.base_stands c.node-body.ensures in
    let within : operator.middle < first.middle = between_onward list operator.middle first.middle operator.body operator.body_stands in
    let onward : first.middle ≤ c.args.stop = line_onward list first.middle c.args.stop first.more first.after in
    let since = c.loop-place.invariant.0 in
    let before = c.loop-place-test.true in (
      omega (arith, last, within, onward, since, before),
      (operator.base ∷ [], base_line list (place + 1) operator.middle (place + 1) c.node-body.result.stop operator.base refl last operator.base_stands),
    )

pub path_at-requires-then-is_lambda : goal.path_at-requires-then-is_lambda
path_at-requires-then-is_lambda t c =
    let list = c.args.context.now.list.now in
    let place = c.loop-place.place in
    let left = c.loop-place.invariant.1 c.requires.0 c.requires.1 in
    let first = first_of list place c.args.stop left.0.0 left.0.1 c.loop-place-test.true in
    let operator = lambda_of list place first.middle first.tree c.node-node.result first.stands c.node-node.ensures (sym c.is_lambda.ensures ∙ c.if-is_lambda.true) in
    record { stop = operator.middle; tree = operator.base; stands = operator.base_stands }

pub text-requires : goal.text-requires
text-requires t c = found_before c.args.context.now.list.now.nodes c.loop-place.place c.node-node.result c.node-node.ensures

pub put_paths-requires-then-is_lambda : goal.put_paths-requires-then-is_lambda
put_paths-requires-then-is_lambda t c =
    let list = c.args.context.now.list.now in
    let place = c.loop-place.place in
    let left = c.loop-place.invariant.1 c.requires.0 c.requires.1 in
    let first = first_of list place c.args.stop left.0.0 left.0.1 c.loop-place-test.true in
    let operator = lambda_of list place first.middle first.tree c.node-node.result first.stands c.node-node.ensures (sym c.is_lambda.ensures ∙ c.if-is_lambda.true) in
    let last : c.node-body.result.stop ≡ operator.middle = between_last list (place + 1) operator.middle operator.base c.node-body.result operator.base_stands c.node-body.ensures in
    let end : c.node-node.result.stop ≡ first.middle = between_last list place first.middle first.tree c.node-node.result first.stands c.node-node.ensures in
    let base : place + 1 < operator.middle = between_onward list (place + 1) operator.middle operator.base operator.base_stands in
    let onward : first.middle ≤ c.args.stop = line_onward list first.middle c.args.stop first.more first.after in
    let since = c.loop-place.invariant.0 in
    let before = c.loop-place-test.true in (
      omega (arith, last, end, base, onward, since, before),
      (operator.body ∷ [], base_line list operator.middle first.middle c.node-body.result.stop c.node-node.result.stop operator.body last end operator.body_stands),
    )

pub loop-place-smaller-then-is_lambda : goal.loop-place-smaller-then-is_lambda
loop-place-smaller-then-is_lambda t c =
    let list = c.args.context.now.list.now in
    let place = c.loop-place.place in
    let left = c.loop-place.invariant.1 c.requires.0 c.requires.1 in
    let first = first_of list place c.args.stop left.0.0 left.0.1 c.loop-place-test.true in
    let end : c.node-node.result.stop ≡ first.middle = between_last list place first.middle first.tree c.node-node.result first.stands c.node-node.ensures in
    let onward : place < first.middle = between_onward list place first.middle first.tree first.stands in
    let before = c.loop-place-test.true in
    omega (arith, end, onward, before)

pub loop-place-preserved-then-is_lambda : goal.loop-place-preserved-then-is_lambda
loop-place-preserved-then-is_lambda t c =
    let list = c.args.context.now.list.now in
    let place = c.loop-place.place in
    let stop = c.args.stop in
    let here = c.node-node.result in
    let before = c.loop-place-test.true in
    let is = sym c.is_lambda.ensures ∙ c.if-is_lambda.true in
    let some = c.loop-place.invariant.1 c.requires.0 c.requires.1 in
    let head = first_of list place stop some.0.0 some.0.1 before in
    let head_end : here.stop ≡ head.middle = between_last list place head.middle head.tree here head.stands c.node-node.ensures in
    let onward : place < head.middle = between_onward list place head.middle head.tree head.stands in
    let since = c.loop-place.invariant.0 in (
      omega (arith, since, head_end, onward),
      λ trees line.
          let left = c.loop-place.invariant.1 trees line in
          let next = first_of list place stop left.0.0 left.0.1 before in
          let next_end : here.stop ≡ next.middle = between_last list place next.middle next.tree here next.stands c.node-node.ensures in (
            (next.more, subst (λ (k : ℕ). AreInLine list k stop next.more) (sym next_end) next.after),
            λ scope paths are.
                let old = map string_bytes c.args.found.now.items in
                let so_far = left.1 scope paths are in
                let first = first_of list place stop so_far.rest so_far.line before in
                let operator = lambda_of list place first.middle first.tree here first.stands c.node-node.ensures is in
                let end : here.stop ≡ first.middle = between_last list place first.middle first.tree here first.stands c.node-node.ensures in
                let last : c.node-body.result.stop ≡ operator.middle = between_last list (place + 1) operator.middle operator.base c.node-body.result operator.base_stands c.node-body.ensures in
                let inner = with_variable scope operator.variable null_type in
                let inner_paths = path_of scope paths operator.base ∷ paths in
                let named : c.text.result.now ≡ operator.variable = same_found (slice_get list.texts place) c.text.result.now operator.variable c.text.ensures operator.text_at in
                let own = c.in_ok-path.ensures scope paths first.middle first.tree first.stands are in
                let base = c.in_ok-base.ensures scope paths operator.middle operator.base operator.base_stands are in
                let bound = subst (λ (held : List NamedText). AreBound inner inner_paths held) (sym (bound_in-Bound c.text.result c.as_str.result c.args.variables))
                (named, c.as_str.ensures.value ∙ base, are) in
                let base_put = c.in_ok-put_paths.ensures scope paths (operator.base ∷ [])
                (base_line list (place + 1) operator.middle (place + 1) c.node-body.result.stop operator.base refl last operator.base_stands) are in
                let body_put = c.in_ok-put_paths-2.ensures inner inner_paths (operator.body ∷ [])
                (base_line list operator.middle first.middle c.node-body.result.stop here.stop operator.body last end operator.body_stands) bound in
                subst (λ (k : ℕ). IsLeft list scope paths old (map string_bytes c.put_paths-then-is_lambda.new.found.items) k stop trees) (sym end)
                (past_lambda list scope paths old (map string_bytes c.loop-place.found.items) (map string_bytes c.put_new.new.found.items) (map string_bytes c.put_paths.new.found.items)
                (map string_bytes c.put_paths-then-is_lambda.new.found.items) place stop trees so_far first operator
                (c.in_ok-put_new.ensures ∙ ap (λ (text : List ℕ). with_texts (map string_bytes c.loop-place.found.items) (text ∷ [])) own) base_put body_put),
          ),
    )

pub loop-place-preserved : goal.loop-place-preserved
loop-place-preserved t c =
    let list = c.args.context.now.list.now in
    let place = c.loop-place.place in
    let stop = c.args.stop in
    let here = c.node-node.result in
    let before = c.loop-place-test.true in
    let plain = sym c.is_lambda.ensures ∙ c.if-is_lambda.false in
    let since = c.loop-place.invariant.0 in (
      omega (arith, since),
      λ trees line.
          let left = c.loop-place.invariant.1 trees line in
          let next = first_of list place stop left.0.0 left.0.1 before in (
            line_below list place stop left.0.0 here next c.node-node.ensures,
            λ scope paths are.
                let old = map string_bytes c.args.found.now.items in
                let found = map string_bytes c.loop-place.found.items in
                let so_far = left.1 scope paths are in
                let first = first_of list place stop so_far.rest so_far.line before in
                let own = c.in_ok-path.ensures scope paths first.middle first.tree first.stands are in
                past_node list scope paths old found (map string_bytes c.put_new.new.found.items) place stop trees here so_far first c.node-node.ensures plain
                (c.in_ok-put_new.ensures ∙ ap (λ (text : List ℕ). with_texts found (text ∷ [])) own),
          ),
    )

pub returns : goal.returns
returns t c scope paths trees line are =
    let list = c.args.context.now.list.now in
    let found = map string_bytes c.loop-place.found.items in
    let left = (c.loop-place.invariant.1 trees line).1 scope paths are in
    let past = c.loop-place-test.false in
    sym (append-nil found) ∙ no_more list scope paths (map string_bytes c.args.found.now.items) found c.loop-place.place c.args.stop trees left (omega (arith, past))
