use Rattle.std.proofs.Common.{Err, ap, ◌∙◌, ℕ, List, subst, sym}
use Rattle.std.proofs.lemmas.Result.{err_from_is_err_and}
use Rattle.odata_syntax.specs.TextTree.{HasTree, text_in}
use Rattle.odata_syntax.specs.Tree.{Tree}
use Rattle.odata_syntax.specs.private.TextParser.{StopsText, TakesText}
use Rattle.odata_syntax.proofs.numbering.Nodes.{ranges_still, tree_still, whole_still}
use Rattle.odata_syntax.proofs.text_trees.Parsed.{IsOneReading, IsTaken, parsed_only, parsed_ranges, parsed_tree, stops_fault, stops_none, unended_no_tree, unended_text}
use Rattle.odata_syntax.proofs.parser.text_parser.parse_text.Goals as goal

pub returns-in_err-take_text-clause-fault : goal.returns-in_err-take_text-clause-fault
returns-in_err-take_text-clause-fault c =
    let exit = err_from_is_err_and c.from_residual.result c.from_residual.ensures.1 in
    rw (exit.1 ∙ ap Err exit.2) (stops_fault c.args.text.now c.in_err-take_text.field-0.0 (subst (λ (t : List ℕ). StopsText t c.in_err-take_text.field-0.0) c.in-Ok.ensures.text c.in_err-take_text.ensures.stops))

pub returns-in_err-take_text-clause-none : goal.returns-in_err-take_text-clause-none
returns-in_err-take_text-clause-none c =
    let one : IsOneReading c.args.text.now = record { list = c.one_reading.ensures.list c.args.text.now; not_both = c.one_reading.ensures.not_both c.args.text.now } in
    let exit = err_from_is_err_and c.from_residual.result c.from_residual.ensures.1 in
    rw (exit.1 ∙ ap Err exit.2) (stops_none c.args.text.now c.in_err-take_text.field-0.0 one (subst (λ (t : List ℕ). StopsText t c.in_err-take_text.field-0.0) c.in-Ok.ensures.text c.in_err-take_text.ensures.stops))

pub returns-in-Refused-clause-fault : goal.returns-in-Refused-clause-fault
returns-in-Refused-clause-fault c =
    let takes : TakesText c.args.text.now c.take_text.new.state = subst (λ (t : List ℕ). TakesText t c.take_text.new.state) c.in-Ok.ensures.text c.in_ok-take_text.ensures.taken in
    rw c.unended.ensures (unended_text c.args.text.now c.take_text.new.state takes (c.in-Refused.ensures.ended (text_in c.args.text.now)))

pub returns-in-Refused-clause-none : goal.returns-in-Refused-clause-none
returns-in-Refused-clause-none c =
    let one : IsOneReading c.args.text.now = record { list = c.one_reading.ensures.list c.args.text.now; not_both = c.one_reading.ensures.not_both c.args.text.now } in
    let takes : TakesText c.args.text.now c.take_text.new.state = subst (λ (t : List ℕ). TakesText t c.take_text.new.state) c.in-Ok.ensures.text c.in_ok-take_text.ensures.taken in
    λ known. unended_no_tree c.args.text.now c.take_text.new.state one takes (c.in-Refused.ensures.ended (text_in c.args.text.now))

pub returns-clause-tree : goal.returns-clause-tree
returns-clause-tree c =
    let takes : TakesText c.args.text.now c.take_text.new.state = subst (λ (t : List ℕ). TakesText t c.take_text.new.state) c.in-Ok.ensures.text c.in_ok-take_text.ensures.taken in
    let taken : IsTaken c.args.text.now c.take_text.new.state c.finish.new.self = record { takes = takes; ends = c.in-Taken.ensures.ended } in
    subst (λ (tree : Tree). HasTree c.args.text.now tree)
    (sym (tree_still c.args.text.now c.finish.new.self.nodes.items c.put_places.new.nodes.items c.put_places.ensures.same))
    (parsed_tree c.args.text.now c.take_text.new.state c.finish.new.self taken)

pub returns-clause-only : goal.returns-clause-only
returns-clause-only c = λ tree has.
    let one : IsOneReading c.args.text.now = record { list = c.one_reading.ensures.list c.args.text.now; not_both = c.one_reading.ensures.not_both c.args.text.now } in
    let takes : TakesText c.args.text.now c.take_text.new.state = subst (λ (t : List ℕ). TakesText t c.take_text.new.state) c.in-Ok.ensures.text c.in_ok-take_text.ensures.taken in
    let taken : IsTaken c.args.text.now c.take_text.new.state c.finish.new.self = record { takes = takes; ends = c.in-Taken.ensures.ended } in
    parsed_only c.args.text.now c.take_text.new.state c.finish.new.self one taken tree has
    ∙ sym (tree_still c.args.text.now c.finish.new.self.nodes.items c.put_places.new.nodes.items c.put_places.ensures.same)

pub returns-clause-whole : goal.returns-clause-whole
returns-clause-whole c = whole_still c.finish.new.self.nodes.items c.put_places.new.nodes.items c.put_places.ensures.same c.in-Taken.ensures.whole

pub returns-clause-ranges : goal.returns-clause-ranges
returns-clause-ranges c =
    let takes : TakesText c.args.text.now c.take_text.new.state = subst (λ (t : List ℕ). TakesText t c.take_text.new.state) c.in-Ok.ensures.text c.in_ok-take_text.ensures.taken in
    let taken : IsTaken c.args.text.now c.take_text.new.state c.finish.new.self = record { takes = takes; ends = c.in-Taken.ensures.ended } in
    ranges_still c.args.text.now c.finish.new.self.nodes.items c.put_places.new.nodes.items c.put_places.ensures.same
    (parsed_ranges c.args.text.now c.take_text.new.state c.finish.new.self taken c.in-Taken.ensures.whole)
