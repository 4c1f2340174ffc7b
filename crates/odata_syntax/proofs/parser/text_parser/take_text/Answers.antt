use Rattle.std.proofs.Common.{◌∙◌}
use Rattle.odata_text.specs.Scanning.{text_of}
use Rattle.odata_syntax.proofs.text_trees.Runs.{IsNextToken, stops_refused, stops_too_deep, taken_more, taken_shallow}
use Rattle.odata_syntax.proofs.parser.text_parser.take_text.Goals as goal

pub returns-in-Refused-clause-stops : goal.returns-in-Refused-clause-stops
returns-in-Refused-clause-stops c =
    let old = c.loop-scanner.scanner in
    let new = c.next_token.new.self in
    let next : IsNextToken old new c.token-token.result = record { further = c.in-Token.ensures.finds; reading = c.in-Token.ensures.reading; is = c.token-token.ensures } in
    stops_refused old new c.loop-scanner.state c.loop-scanner.depth.opens c.loop-scanner.depth.closes c.token-token.result (text_of c.args.scanner) c.first_fault.result
    (next.further.text ∙ c.loop-scanner.invariant.text) c.loop-scanner.invariant.taken next c.in-Refused.ensures.step c.first_fault.ensures

pub exceeds-requires-clause-within : goal.exceeds-requires-clause-within
exceeds-requires-clause-within c = taken_shallow c.loop-scanner.scanner c.loop-scanner.state c.loop-scanner.depth.opens c.loop-scanner.depth.closes c.loop-scanner.invariant.taken

pub returns-then-exceeds-clause-stops : goal.returns-then-exceeds-clause-stops
returns-then-exceeds-clause-stops c =
    let old = c.loop-scanner.scanner in
    let new = c.next_token.new.self in
    let next : IsNextToken old new c.token-token.result = record { further = c.in-Token.ensures.finds; reading = c.in-Token.ensures.reading; is = c.token-token.ensures } in
    stops_too_deep old new c.loop-scanner.state c.step.new.self c.loop-scanner.depth.opens c.loop-scanner.depth.closes c.exceeds.new.self.opens c.exceeds.new.self.closes c.token-token.result
    (text_of c.args.scanner) c.first_fault-then-exceeds.result (next.further.text ∙ c.loop-scanner.invariant.text) c.loop-scanner.invariant.taken next
    c.in-Taken.ensures.step c.exceeds.ensures.opens c.exceeds.ensures.closes (c.exceeds.ensures.deep c.if-exceeds.true) c.first_fault-then-exceeds.ensures

pub loop-scanner-preserved : goal.loop-scanner-preserved
loop-scanner-preserved c =
    let old = c.loop-scanner.scanner in
    let new = c.next_token.new.self in
    let next : IsNextToken old new c.token-token.result = record { further = c.in-Token.ensures.finds; reading = c.in-Token.ensures.reading; is = c.token-token.ensures } in
    record {
      reading = c.in-Token.ensures.reading;
      text = next.further.text ∙ c.loop-scanner.invariant.text;
      steady = c.in-Taken.ensures.steady;
      taken = taken_more old new c.loop-scanner.state c.step.new.self c.loop-scanner.depth.opens c.loop-scanner.depth.closes c.exceeds.new.self.opens c.exceeds.new.self.closes c.token-token.result
          c.loop-scanner.invariant.taken next c.in-Taken.ensures.step c.exceeds.ensures.opens c.exceeds.ensures.closes (c.exceeds.ensures.shallow c.if-exceeds.false);
    }
