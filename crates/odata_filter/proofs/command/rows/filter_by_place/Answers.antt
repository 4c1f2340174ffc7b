use Rattle.std.proofs.Common.{Err, ap, ◌∙◌, inl, option_map, subst, sym}
use Rattle.std.proofs.lemmas.Result.{err_from_is_err_and}
use Rattle.std.proofs.KnownBytes.{Keeps-refl}
use Rattle.odata_filter.specs.Run.{streams}
use Rattle.odata_filter.specs.private.RunFailures.{IsReadWhole}
use Rattle.odata_filter.proofs.RunLemmas.RowEndings.{places_done, places_done-begin, places_fail, places_fail-begin, unread_says}
use Rattle.odata_filter.proofs.command.rows.filter_by_place.Goals as goal

pub returns-in_err-document-clause-says : goal.returns-in_err-document-clause-says
returns-in_err-document-clause-says g c document is_ready =
    let exit = err_from_is_err_and c.from_residual.result c.from_residual.ensures.1 in
    rw (exit.1 ∙ ap Err exit.2) (unread_says c.args.ready.now.plan.now document c.args.ready.now.checked.now c.args.ready.now.now (streams (option_map (λ r. g.R.Read.remaining r) c.args.rows) (g.W.Write.contents c.args.out.now) (g.W.Write.contents c.args.out.now)) c.in_err-document.field-0.0 is_ready c.in_err-document.ensures.unread)

pub returns-in_err-document-clause-begins : goal.returns-in_err-document-clause-begins
returns-in_err-document-clause-begins g c document is_ready = inl (Keeps-refl (g.W.Write.contents c.args.out.now))

pub returns-in-Ok-clause-says : goal.returns-in-Ok-clause-says
returns-in-Ok-clause-says g c document is_ready =
    places_done c.args.ready.now.plan.now document c.args.ready.now.checked.now c.args.ready.now.now is_ready c.requires
    (option_map (λ r. g.R.Read.remaining r) c.args.rows) (g.W.Write.contents c.args.out.now) (g.W.Write.contents c.filter_collection.new.out)
    c.deref.result.now (subst (IsReadWhole (option_map (λ r. g.R.Read.remaining r) c.args.rows)) (sym c.deref.ensures.value) c.in_ok-document.ensures.whole)
    c.in-Ok.field-0 c.in-Ok.ensures.filters

pub returns-in-Ok-clause-begins : goal.returns-in-Ok-clause-begins
returns-in-Ok-clause-begins g c document is_ready =
    places_done-begin c.args.ready.now.plan.now document c.args.ready.now.checked.now c.args.ready.now.now is_ready c.requires
    (option_map (λ r. g.R.Read.remaining r) c.args.rows) (g.W.Write.contents c.args.out.now) (g.W.Write.contents c.filter_collection.new.out)
    c.deref.result.now (subst (IsReadWhole (option_map (λ r. g.R.Read.remaining r) c.args.rows)) (sym c.deref.ensures.value) c.in_ok-document.ensures.whole)
    c.in-Ok.field-0 c.in-Ok.ensures.filters

pub returns-clause-says : goal.returns-clause-says
returns-clause-says g c document is_ready =
    places_fail c.args.ready.now.plan.now document c.args.ready.now.checked.now c.args.ready.now.now is_ready c.requires
    (option_map (λ r. g.R.Read.remaining r) c.args.rows) (g.W.Write.contents c.args.out.now) (g.W.Write.contents c.filter_collection.new.out)
    c.deref.result.now (subst (IsReadWhole (option_map (λ r. g.R.Read.remaining r) c.args.rows)) (sym c.deref.ensures.value) c.in_ok-document.ensures.whole)
    c.in-Err.fault c.in-Err.ensures.stops

pub returns-clause-begins : goal.returns-clause-begins
returns-clause-begins g c document is_ready =
    places_fail-begin c.args.ready.now.plan.now document c.args.ready.now.checked.now c.args.ready.now.now is_ready c.requires
    (option_map (λ r. g.R.Read.remaining r) c.args.rows) (g.W.Write.contents c.args.out.now) (g.W.Write.contents c.filter_collection.new.out)
    c.deref.result.now (subst (IsReadWhole (option_map (λ r. g.R.Read.remaining r) c.args.rows)) (sym c.deref.ensures.value) c.in_ok-document.ensures.whole)
    c.in-Err.fault c.in-Err.ensures.stops
