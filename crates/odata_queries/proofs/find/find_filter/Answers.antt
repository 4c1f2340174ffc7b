use Rattle.std.proofs.Common.{Err, option_map, tests}
use Rattle.std.proofs.lemmas.Result.{err_from_is_err_and}
use Rattle.std.proofs.lemmas.Iterator.Consumers.{YieldsList-end}
use Rattle.std.proofs.lemmas.Iterator.Splits.{YieldsList-from_slice_split}
use Rattle.odata_queries.proofs.Common.{rules, map_push, ◌≢◌, ◌+◌, ◌==◌, ◌∷◌, [], ℕ, map, length-append, arith, refl, sym, ◌∙◌, ap}
use Rattle.odata_queries.specs.Find.{found_model}
use Rattle.odata_queries.specs.declared.find_fault.FindFault.TheVariants.{Memory}
use Rattle.odata_queries.proofs.queries.FindLoops.{found-all, found-among, found-fault, found-kept, found-room}
use Rattle.odata_queries.proofs.queries.Finds.{no_find_fault, one_found}
use Rattle.odata_queries.proofs.queries.QueryLoops.{IsNext, next-given}
use Rattle.odata_queries.proofs.find.find_filter.Goals as goal

pub after_piece-requires : goal.after_piece-requires
after_piece-requires c =
    let next : IsNext c.args.query.now (map (λ o. o.now) c.loop-piece.yielded) c.loop-piece.number c.in-Some.piece.now =
    next-given c.args.query.now c.loop-piece.number c.loop-piece.yielded (λ o. o.now) c.loop-piece.piece-iterator c.loop-piece.yielded_by c.loop-piece.invariant.1 _ _ c.in-Some.piece c.in-Some.is c.next.ensures.steps
    (YieldsList-from_slice_split _ (λ b. b == 38) c.args.query.now (cc) (cc) refl (λ x r q k. search (rules, tests))) in
    let room = found-room c.args.query.now c.in-Some.piece.now _ c.loop-piece.number c.loop-piece.start _ c.loop-piece.invariant.0 next in
    omega arith

pub returns-in_err-filter : goal.returns-in_err-filter
returns-in_err-filter c =
    let next : IsNext c.args.query.now (map (λ o. o.now) c.loop-piece.yielded) c.loop-piece.number c.in-Some.piece.now =
    next-given c.args.query.now c.loop-piece.number c.loop-piece.yielded (λ o. o.now) c.loop-piece.piece-iterator c.loop-piece.yielded_by c.loop-piece.invariant.1 _ _ c.in-Some.piece c.in-Some.is c.next.ensures.steps
    (YieldsList-from_slice_split _ (λ b. b == 38) c.args.query.now (cc) (cc) refl (λ x r q k. search (rules, tests))) in
    let so_far = c.loop-piece.invariant.0 in
    let faulty = λ (known : c.in_err-filter.field-0.0 ≢ Memory). found-fault c.args.query.now c.in-Some.piece.now _ c.loop-piece.number c.loop-piece.start _ c.in_err-filter.field-0.0 so_far next (c.in_err-filter.ensures.fault known _ (found-among (map (λ o. o.now) c.loop-piece.yielded) (option_map found_model c.loop-piece.filter) so_far.has)) in
    let exit = err_from_is_err_and c.from_residual.result c.from_residual.ensures.1 in
    rw (exit.1 ∙ ap Err exit.2) (record { found = tt; only = tt; fault = faulty; none = λ known found asked. no_find_fault c.args.query.now found asked c.in_err-filter.field-0.0 (faulty known) })

pub overflow_add-start-in-loop-piece : goal.overflow_add-start-in-loop-piece
overflow_add-start-in-loop-piece c =
    let next : IsNext c.args.query.now (map (λ o. o.now) c.loop-piece.yielded) c.loop-piece.number c.in-Some.piece.now =
    next-given c.args.query.now c.loop-piece.number c.loop-piece.yielded (λ o. o.now) c.loop-piece.piece-iterator c.loop-piece.yielded_by c.loop-piece.invariant.1 _ _ c.in-Some.piece c.in-Some.is c.next.ensures.steps
    (YieldsList-from_slice_split _ (λ b. b == 38) c.args.query.now (cc) (cc) refl (λ x r q k. search (rules, tests))) in
    let room = found-room c.args.query.now c.in-Some.piece.now _ c.loop-piece.number c.loop-piece.start _ c.loop-piece.invariant.0 next in
    omega arith

pub loop-piece-preserved : goal.loop-piece-preserved
loop-piece-preserved c = (
  rw (map_push (λ o. o.now) c.loop-piece.yielded c.in-Some.piece) (found-kept c.in-Some.piece.now _ c.loop-piece.start _ _ c.loop-piece.invariant.0 c.in_ok-filter.ensures.clear c.in_ok-filter.ensures.keeps),
  ap (λ (n : ℕ). n + 1) c.loop-piece.invariant.1 ∙ sym (length-append c.loop-piece.yielded (c.in-Some.piece ∷ [])),
)

pub returns : goal.returns
returns c =
    let end =
    YieldsList-end (YieldsList-from_slice_split _ (λ b. b == 38) c.args.query.now (cc) (cc) refl (λ x r q k. search (rules, tests))) c.loop-piece.yielded c.loop-piece.piece-iterator c.loop-piece.yielded_by _ _ c.in-None.is c.next.ensures.steps in
    let found = found-all c.args.query.now _ c.loop-piece.start _ c.loop-piece.invariant.0 end.0 in
    record { found = found; only = λ other asked. one_found c.args.query.now other _ asked found; fault = tt; none = tt }
