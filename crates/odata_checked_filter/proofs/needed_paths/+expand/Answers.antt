use Rattle.std.proofs.Common.{◌≡◌, ◌+◌, ◌-◌, ◌∷◌, [], ℕ, List, max, sym, ◌∙◌, subst, arith}
use Rattle.csdl_schema.specs.ExprType.{single}
use Rattle.csdl_schema.specs.SchemaModel.{slots_of, type_name_at}
use Rattle.odata_signatures.specs.NeededPaths.{path_of}
use Rattle.odata_signatures.specs.Typed.{with_variable}
use Rattle.odata_checked_filter.specs.private.NeededPaths.{LeadThere, nodes_in}
use Rattle.odata_checked_filter.proofs.printed.Results.{on_ok}
use Rattle.odata_checked_filter.proofs.flat.Standing.{lies_last, lies_within}
use Rattle.odata_checked_filter.proofs.needed.Bodies.{lambda_puts}
use Rattle.odata_checked_filter.proofs.needed.Heads.{head_of, lambda_tree, way_there}
use Rattle.odata_checked_filter.proofs.needed.Levels.{nodes_in-Bound}
use Rattle.odata_checked_filter.proofs.needed.Lines.{IsLeft, left_begin, left_over, line_onward, one_line}
use Rattle.odata_checked_filter.proofs.needed.Onward.{first_left, past_lambda, past_node, past_way, tree_now}
use Rattle.odata_checked_filter.proofs.needed.Operators.{lambda_of, lambda_onward, operator_stops, parts_onward}
use Rattle.odata_checked_filter.proofs.needed.Sets.{lead_still}
use Rattle.odata_checked_filter.proofs.nesting.Lines.{is_max}
use Rattle.odata_checked_filter.proofs.needed_paths.+expand.Goals as goal

-- the walk begins with all trees
pub expand-loop-place-init : goal.expand-loop-place-init
expand-loop-place-init t c = (omega arith, λ scope paths trees line lead. left_begin c.args.context.now.schema.now c.args.context.now.filtered_type scope c.args.context.now.list.now paths c.args.expansion.now c.args.stop trees c.args.from line)

pub expand-node-requires : goal.expand-node-requires
expand-node-requires t c =
    let r = c.requires in
    let there = tree_now c.args.context.now c.args.expansion.now c.loop-place.expansion (nodes_in c.args.variables.now) c.args.from c.loop-place.place c.args.stop r
    (c.loop-place.invariant.1 r.scope r.paths r.trees r.line r.lead) c.loop-place-test.true in
    lies_within c.args.context.now.schema.now c.args.context.now.filtered_type there.scope c.args.context.now.list.now c.loop-place.place there.stop there.tree there.stands

pub expand-loop-place-preserved : goal.expand-loop-place-preserved
expand-loop-place-preserved t c =
    let schema = c.args.context.now.schema.now in
    let n = c.args.context.now.filtered_type in
    let list = c.args.context.now.list.now in
    let place = c.loop-place.place in
    let class = sym c.need_class.ensures ∙ c.in-Children.is in
    let since = c.loop-place.invariant.0 in (
      omega (arith, since),
      λ scope paths trees line lead.
          let left = c.loop-place.invariant.1 scope paths trees line lead in
          past_node schema n scope list paths c.args.expansion.now c.args.stop trees c.loop-place.expansion place left
          (first_left schema n scope list paths c.args.expansion.now c.args.stop trees c.loop-place.expansion place left c.loop-place-test.true) c.node.result c.node.ensures class,
    )

pub expand-returns : goal.expand-returns
expand-returns t c scope paths trees line lead =
    left_over c.args.context.now.schema.now c.args.context.now.filtered_type scope c.args.context.now.list.now paths c.args.expansion.now c.args.stop trees c.loop-place.expansion c.loop-place.place
    (c.loop-place.invariant.1 scope paths trees line lead) (let past = c.loop-place-test.false in omega (arith, past))

-- ---- a lambda operator on the way

pub expand-lambda_places-places-requires : goal.expand-lambda_places-places-requires
expand-lambda_places-places-requires t c =
    let schema = c.args.context.now.schema.now in
    let n = c.args.context.now.filtered_type in
    let list = c.args.context.now.list.now in
    let r = c.requires in
    let there = tree_now c.args.context.now c.args.expansion.now c.loop-place.expansion (nodes_in c.args.variables.now) c.args.from c.loop-place.place c.args.stop r
    (c.loop-place.invariant.1 r.scope r.paths r.trees r.line r.lead) c.loop-place-test.true in
    let operator = lambda_tree schema n there.scope list c.loop-place.place there.stop there.tree c.node.result there.stands c.node.ensures (sym c.need_class.ensures ∙ c.in-Lambda.is) in
    lies_within schema n there.scope list (c.loop-place.place + 1) operator.middle operator.base operator.base_stands

pub expand-expand_lambda-requires : goal.expand-expand_lambda-requires
expand-expand_lambda-requires t c =
    let context = c.args.context.now in
    let schema = context.schema.now in
    let n = context.filtered_type in
    let list = context.list.now in
    let place = c.loop-place.place in
    let r = c.requires in
    let left = c.loop-place.invariant.1 r.scope r.paths r.trees r.line r.lead in
    let first = head_of schema n r.scope list place c.args.stop left.rest left.line c.loop-place-test.true in
    let operator = lambda_tree schema n r.scope list place first.middle first.tree c.node.result first.stands c.node.ensures (sym c.need_class.ensures ∙ c.in-Lambda.is) in
    let places = c.lambda_places-places.result in
    let are = c.lambda_places-places.ensures in
    let stops = operator_stops context r.scope place first.middle first.tree c.node.result places first.stands c.node.ensures are operator in
    let parts = parts_onward context r.scope place first.middle first.tree c.node.result places first.stands c.node.ensures are operator in
    let onward = line_onward schema n r.scope list first.middle c.args.stop first.more first.behind in
    let since = c.loop-place.invariant.0 in
    let begins = are.base_is in (
      omega (arith, stops, parts.0, parts.1, onward, since, begins),
      record {
        scope = r.scope;
        paths = r.paths;
        base = operator.base;
        variable = operator.variable;
        body = operator.body;
        is = lambda_of context r.scope place first.middle first.tree c.node.result places first.stands c.node.ensures are operator;
        lead = lead_still c.args.expansion.now c.loop-place.expansion r.scope r.paths (nodes_in c.args.variables.now) left.leads r.lead;
      },
    )

pub expand-loop-place-preserved-in-Lambda : goal.expand-loop-place-preserved-in-Lambda
expand-loop-place-preserved-in-Lambda t c =
    let context = c.args.context.now in
    let schema = context.schema.now in
    let n = context.filtered_type in
    let list = context.list.now in
    let place = c.loop-place.place in
    let old = c.args.expansion.now in
    let places = c.lambda_places-places.result in
    let are = c.lambda_places-places.ensures in
    let r = c.requires in
    let begun = c.loop-place.invariant.1 r.scope r.paths r.trees r.line r.lead in
    let head = head_of schema n r.scope list place c.args.stop begun.rest begun.line c.loop-place-test.true in
    let there = lambda_tree schema n r.scope list place head.middle head.tree c.node.result head.stands c.node.ensures (sym c.need_class.ensures ∙ c.in-Lambda.is) in
    let parts = parts_onward context r.scope place head.middle head.tree c.node.result places head.stands c.node.ensures are there in
    let since = c.loop-place.invariant.0 in
    let begins = are.base_is in (
      omega (arith, since, begins, parts.0, parts.1),
      λ scope paths trees line lead.
          let left = c.loop-place.invariant.1 scope paths trees line lead in
          let first = first_left schema n scope list paths old c.args.stop trees c.loop-place.expansion place left c.loop-place-test.true in
          let operator = lambda_tree schema n scope list place first.middle first.tree c.node.result first.stands c.node.ensures (sym c.need_class.ensures ∙ c.in-Lambda.is) in
          let puts = c.in_ok-expand_lambda-in-Lambda.ensures scope paths operator.base operator.variable operator.body
          (lambda_of context scope place first.middle first.tree c.node.result places first.stands c.node.ensures are operator)
          (lead_still old c.loop-place.expansion scope paths (nodes_in c.args.variables.now) left.leads lead) in
          let stops = operator_stops context scope place first.middle first.tree c.node.result places first.stands c.node.ensures are operator in
          let last = lies_last schema n scope list place first.middle first.tree c.node.result first.stands c.node.ensures in
          subst (λ (k : ℕ). IsLeft schema n scope list paths old c.expand_lambda.new.expansion k c.args.stop trees) (last ∙ sym stops)
          (past_lambda schema n scope list paths old c.args.stop trees c.loop-place.expansion c.expand_lambda.new.expansion place left first c.node.result c.node.ensures operator puts),
    )

pub expand-loop-place-smaller-in-Lambda : goal.expand-loop-place-smaller-in-Lambda
expand-loop-place-smaller-in-Lambda t c =
    let context = c.args.context.now in
    let r = c.requires in
    let there = tree_now c.args.context.now c.args.expansion.now c.loop-place.expansion (nodes_in c.args.variables.now) c.args.from c.loop-place.place c.args.stop r
    (c.loop-place.invariant.1 r.scope r.paths r.trees r.line r.lead) c.loop-place-test.true in
    let operator = lambda_tree context.schema.now context.filtered_type there.scope context.list.now c.loop-place.place there.stop there.tree c.node.result there.stands c.node.ensures
    (sym c.need_class.ensures ∙ c.in-Lambda.is) in
    let parts = parts_onward context there.scope c.loop-place.place there.stop there.tree c.node.result c.lambda_places-places.result there.stands c.node.ensures c.lambda_places-places.ensures operator in
    let begins = c.lambda_places-places.ensures.base_is in
    let before = c.loop-place-test.true in
    omega (arith, begins, parts.0, parts.1, before)

-- ---- a path on the way

pub expand-expand_operand-requires : goal.expand-expand_operand-requires
expand-expand_operand-requires t c =
    let r = c.requires in
    tree_now c.args.context.now c.args.expansion.now c.loop-place.expansion (nodes_in c.args.variables.now) c.args.from c.loop-place.place c.args.stop r
    (c.loop-place.invariant.1 r.scope r.paths r.trees r.line r.lead) c.loop-place-test.true

pub expand-loop-place-preserved-in-Path : goal.expand-loop-place-preserved-in-Path
expand-loop-place-preserved-in-Path t c =
    let schema = c.args.context.now.schema.now in
    let n = c.args.context.now.filtered_type in
    let list = c.args.context.now.list.now in
    let place = c.loop-place.place in
    let old = c.args.expansion.now in
    let base = c.in_ok-base-in-Path.base in
    let next : c.max-place.result ≡ max base (place + 1) = (let greater = is_max base (place + 1) in let reported = c.max-place.ensures in cc) in
    let since = c.loop-place.invariant.0 in (
      omega (arith, since, next),
      λ scope paths trees line lead.
          let left = c.loop-place.invariant.1 scope paths trees line lead in
          let first = first_left schema n scope list paths old c.args.stop trees c.loop-place.expansion place left c.loop-place-test.true in
          let reached = c.in_ok-base-in-Path.ensures scope paths first.middle first.tree first.stands (lead_still old c.loop-place.expansion scope paths (nodes_in c.args.variables.now) left.leads lead) in
          subst (λ (k : ℕ). IsLeft schema n scope list paths old c.expand_operand.new.expansion k c.args.stop trees) (sym next)
          (past_way schema n scope list paths old c.args.stop trees c.loop-place.expansion c.expand_operand.new.expansion place left first
          (way_there schema n scope list place first.middle first.tree c.node.result first.stands c.node.ensures (sym c.need_class.ensures ∙ c.in-Path.is)) base reached.begins reached.puts),
    )

-- ---- the parts of a lambda operator

pub expand_lambda-expand-requires : goal.expand_lambda-expand-requires
expand_lambda-expand-requires t c =
    let context = c.args.context.now in
    let r = c.requires in
    let onward = lambda_onward context r.scope c.args.places.now r.base r.variable r.body r.is in (
      omega (arith, onward.0, onward.1),
      record {
        scope = r.scope;
        paths = r.paths;
        trees = r.base ∷ [];
        line = one_line context.schema.now context.filtered_type r.scope context.list.now c.args.places.now.base c.args.places.now.body r.base r.is.base_stands;
        lead = r.lead;
      },
    )

pub expand_lambda-expand_path-requires : goal.expand_lambda-expand_path-requires
expand_lambda-expand_path-requires t c =
    let context = c.args.context.now in
    let r = c.requires in
    let line = one_line context.schema.now context.filtered_type r.scope context.list.now c.args.places.now.base c.args.places.now.body r.base r.is.base_stands in
    let first = c.in_ok-expand.ensures r.scope r.paths (r.base ∷ []) line r.lead in
    record {
      scope = r.scope;
      paths = r.paths;
      stop = c.args.places.now.body;
      tree = r.base;
      stands = r.is.base_stands;
      lead = lead_still c.args.expansion.now c.expand.new.expansion r.scope r.paths (nodes_in c.args.variables.now) first.leads r.lead;
    }

pub expand_lambda-expand-requires-2 : goal.expand_lambda-expand-requires-2
expand_lambda-expand-requires-2 t c =
    let context = c.args.context.now in
    let schema = context.schema.now in
    let n = context.filtered_type in
    let list = context.list.now in
    let places = c.args.places.now in
    let nodes = nodes_in c.args.variables.now in
    let r = c.requires in
    let is = r.is in
    let inner = with_variable r.scope r.variable (single is.body_stands.member_type) in
    let onward = lambda_onward context r.scope places r.base r.variable r.body is in
    let line = one_line schema n r.scope list places.base places.body r.base is.base_stands in
    let first = c.in_ok-expand.ensures r.scope r.paths (r.base ∷ []) line r.lead in
    let mid = lead_still c.args.expansion.now c.expand.new.expansion r.scope r.paths nodes first.leads r.lead in
    let reached = c.in_ok-base.ensures r.scope r.paths places.body r.base is.base_stands mid in
    let way = c.expand_path.new.expansion in (
      omega (arith, onward.0, onward.1),
      record {
        scope = inner;
        paths = path_of r.scope r.paths r.base ∷ r.paths;
        trees = r.body ∷ [];
        line = one_line schema n inner list places.body places.stop r.body is.body_stands.body;
        lead = subst (λ (held : List ℕ). LeadThere way inner (path_of r.scope r.paths r.base ∷ r.paths) held) (sym (nodes_in-Bound c.in_ok-base.base.node c.args.variables))
            (reached.leads, lead_still c.expand.new.expansion way r.scope r.paths nodes reached.puts.leads mid);
      },
    )

pub expand_lambda-returns : goal.expand_lambda-returns
expand_lambda-returns t c scope paths base variable body is lead =
    let context = c.args.context.now in
    let schema = context.schema.now in
    let n = context.filtered_type in
    let slots = slots_of schema in
    let root = type_name_at schema n in
    let list = context.list.now in
    let places = c.args.places.now in
    let nodes = nodes_in c.args.variables.now in
    let member = is.body_stands.member_type in
    let inner = with_variable scope variable (single member) in
    let old = c.args.expansion.now in
    let mid = c.expand.new.expansion in
    let way = c.expand_path.new.expansion in
    let new = c.expand-2.new.expansion in
    let line = one_line schema n scope list places.base places.body base is.base_stands in
    let first = c.in_ok-expand.ensures scope paths (base ∷ []) line lead in
    let lead_mid = lead_still old mid scope paths nodes first.leads lead in
    let reached = c.in_ok-base.ensures scope paths places.body base is.base_stands lead_mid in
    let lead_inner = subst (λ (held : List ℕ). LeadThere way inner (path_of scope paths base ∷ paths) held) (sym (nodes_in-Bound c.in_ok-base.base.node c.args.variables))
    (reached.leads, lead_still mid way scope paths nodes reached.puts.leads lead_mid) in
    on_ok c.expand-2.result
    (lambda_puts c.trees_have_one_type.ensures slots root scope paths base variable body old mid way new member is.body_stands.binds first reached.puts)
    (c.expand-2.ensures inner (path_of scope paths base ∷ paths) (body ∷ []) (one_line schema n inner list places.body places.stop body is.body_stands.body) lead_inner)
