use Rattle.std.proofs.Common.{Err, tests}
use Rattle.std.proofs.lemmas.Result.{err_from_is_err_and}
use Rattle.std.proofs.lemmas.Iterator.Consumers.{YieldsList-end}
use Rattle.std.proofs.lemmas.Iterator.Splits.{YieldsList-from_slice_split}
use Rattle.odata_queries.proofs.Common.{rules, map_push, ◌≢◌, ◌+◌, ◌==◌, ◌∷◌, [], ℕ, map, length-append, arith, refl, sym, ◌∙◌, ap, subst, IsQueryFault}
use Rattle.odata_queries.specs.declared.query_fault.QueryFault.TheVariants.{Memory}
use Rattle.odata_queries.proofs.queries.Queries.{no_fault, one_filter}
use Rattle.odata_queries.proofs.queries.QueryLoops.{IsNext, next-given, read-all, read-fault, read-kept, read-room, read-two}
use Rattle.odata_queries.proofs.query.filter_of_query.Goals as goal

pub filter_of_option-requires : goal.filter_of_option-requires
filter_of_option-requires c =
    let next : IsNext c.args.query.now (map (λ o. o.now) c.loop-option.yielded) c.loop-option.number c.in-Some.option.now =
    next-given c.args.query.now c.loop-option.number c.loop-option.yielded (λ o. o.now) c.loop-option.option-iterator c.loop-option.yielded_by c.loop-option.invariant.1 _ _ c.in-Some.option c.in-Some.is c.next.ensures.steps
    (YieldsList-from_slice_split _ (λ b. b == 38) c.args.query.now (cc) (cc) refl (λ x r q k. search (rules, tests))) in
    let room = read-room c.args.query.now c.in-Some.option.now _ c.loop-option.number c.loop-option.start _ c.loop-option.invariant.0 next in
    omega arith

pub returns-in_err-found : goal.returns-in_err-found
returns-in_err-found c =
    let next : IsNext c.args.query.now (map (λ o. o.now) c.loop-option.yielded) c.loop-option.number c.in-Some.option.now =
    next-given c.args.query.now c.loop-option.number c.loop-option.yielded (λ o. o.now) c.loop-option.option-iterator c.loop-option.yielded_by c.loop-option.invariant.1 _ _ c.in-Some.option c.in-Some.is c.next.ensures.steps
    (YieldsList-from_slice_split _ (λ b. b == 38) c.args.query.now (cc) (cc) refl (λ x r q k. search (rules, tests))) in
    let faulty = λ (known : c.in_err-found.field-0.0 ≢ Memory). read-fault c.args.query.now c.in-Some.option.now _ c.loop-option.number c.loop-option.start _ c.in_err-found.field-0.0 c.loop-option.invariant.0 next (c.in_err-found.ensures.fault known _) in
    let exit = err_from_is_err_and c.from_residual.result c.from_residual.ensures.1 in
    rw (exit.1 ∙ ap Err exit.2) (record { filter = tt; only = tt; fault = faulty; none = λ known filter asked. no_fault c.args.query.now filter asked c.in_err-found.field-0.0 (faulty known) })

pub returns-in_err-filter : goal.returns-in_err-filter
returns-in_err-filter c =
    let next : IsNext c.args.query.now (map (λ o. o.now) c.loop-option.yielded) c.loop-option.number c.in-Some.option.now =
    next-given c.args.query.now c.loop-option.number c.loop-option.yielded (λ o. o.now) c.loop-option.option-iterator c.loop-option.yielded_by c.loop-option.invariant.1 _ _ c.in-Some.option c.in-Some.is c.next.ensures.steps
    (YieldsList-from_slice_split _ (λ b. b == 38) c.args.query.now (cc) (cc) refl (λ x r q k. search (rules, tests))) in
    let two = c.in_err-filter.ensures.fault in
    let faulty = subst (IsQueryFault c.args.query.now) (sym two.0) (read-two c.args.query.now c.in-Some.option.now _ c.loop-option.number c.loop-option.start _ _ c.loop-option.invariant.0 next c.in_ok-found.ensures.readable c.in_ok-found.ensures.gives two.1) in
    let exit = err_from_is_err_and c.from_residual-in_err-filter.result c.from_residual-in_err-filter.ensures.1 in
    rw (exit.1 ∙ ap Err exit.2) (record { filter = tt; only = tt; fault = λ known. faulty; none = λ known filter asked. no_fault c.args.query.now filter asked c.in_err-filter.field-0.0 faulty })

pub overflow_add-start-in-loop-option : goal.overflow_add-start-in-loop-option
overflow_add-start-in-loop-option c =
    let next : IsNext c.args.query.now (map (λ o. o.now) c.loop-option.yielded) c.loop-option.number c.in-Some.option.now =
    next-given c.args.query.now c.loop-option.number c.loop-option.yielded (λ o. o.now) c.loop-option.option-iterator c.loop-option.yielded_by c.loop-option.invariant.1 _ _ c.in-Some.option c.in-Some.is c.next.ensures.steps
    (YieldsList-from_slice_split _ (λ b. b == 38) c.args.query.now (cc) (cc) refl (λ x r q k. search (rules, tests))) in
    let room = read-room c.args.query.now c.in-Some.option.now _ c.loop-option.number c.loop-option.start _ c.loop-option.invariant.0 next in
    omega arith

pub loop-option-preserved : goal.loop-option-preserved
loop-option-preserved c = (
  rw (map_push (λ o. o.now) c.loop-option.yielded c.in-Some.option) (read-kept c.in-Some.option.now _ c.loop-option.start _ _ _ c.loop-option.invariant.0 c.in_ok-found.ensures.readable c.in_ok-found.ensures.gives c.in_ok-filter.ensures.ok),
  ap (λ (n : ℕ). n + 1) c.loop-option.invariant.1 ∙ sym (length-append c.loop-option.yielded (c.in-Some.option ∷ [])),
)

pub returns : goal.returns
returns c =
    let end =
    YieldsList-end (YieldsList-from_slice_split _ (λ b. b == 38) c.args.query.now (cc) (cc) refl (λ x r q k. search (rules, tests))) c.loop-option.yielded c.loop-option.option-iterator c.loop-option.yielded_by _ _ c.in-None.is c.next.ensures.steps in
    let filter = read-all c.args.query.now _ c.loop-option.start _ c.loop-option.invariant.0 end.0 in
    record { filter = filter; only = λ other asked. one_filter c.args.query.now other _ asked filter; fault = tt; none = tt }
