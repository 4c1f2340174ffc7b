use Rattle.std.proofs.Common.{◌≡◌, refl, ap, ◌∙◌, ℕ, ◌<◌, List, length, take, get_or, slice_get, arith}
use Rattle.std.proofs.lemmas.Option.{slice_get-get_or}
use Rattle.odata_text.specs.declared.token.Token.{Token}
use Rattle.odata_text.specs.TokenModel.{token_models}
use Rattle.odata_syntax.proofs.machine.Depth.{shallow-whole}
use Rattle.odata_syntax.proofs.machine.Loop.{loop_more, loop_overfull, stuck_at}
use Rattle.odata_syntax.specs.declared.syntax_fault.SyntaxFault.{SyntaxFault}
use Rattle.odata_syntax.specs.private.Forests.{text_of_token, token_texts}
use Rattle.odata_syntax.specs.private.MachineView.{machine_of}
use Rattle.odata_syntax.proofs.parser.take_all.Goals as goal

-- a token's text is found by its number
named_at : (tokens : List Token) (number index : ℕ) (d : Token) → index < length tokens → number ≡ index → text_of_token (slice_get tokens number) ≡ (get_or tokens index d).text.now
named_at tokens number index d inside same =
    ap (λ k. text_of_token (slice_get tokens k)) same ∙ ap text_of_token (slice_get-get_or tokens index d inside)

pub returns-in-Refused-clause-refused : goal.returns-in-Refused-clause-refused
returns-in-Refused-clause-refused c =
    let i = c.loop-token.invariant in
    let texts = token_texts c.args.tokens.now in
    let named = named_at c.args.tokens.now c.loop-token.number c.loop-token.token-index _ (omega arith) i.number in
    stuck_at c.args.tokens.now c.loop-token.token-index _ (machine_of texts c.loop-token.state) (SyntaxFault.Unexpected _) (omega arith) i.taken i.shallow
    (record { start_is = refl; stop_is = refl }, c.in-Refused.ensures.step texts named)

pub exceeds-requires-clause-within : goal.exceeds-requires-clause-within
exceeds-requires-clause-within c =
    let i = c.loop-token.invariant in
    let whole = shallow-whole (token_models (take c.loop-token.token-index c.args.tokens.now)) i.shallow in
    omega (arith, whole, i.opened, i.closed)

pub returns-then-exceeds-clause-refused : goal.returns-then-exceeds-clause-refused
returns-then-exceeds-clause-refused c =
    let i = c.loop-token.invariant in
    let texts = token_texts c.args.tokens.now in
    let named = named_at c.args.tokens.now c.loop-token.number c.loop-token.token-index _ (omega arith) i.number in
    loop_overfull c.args.tokens.now c.loop-token.token-index _ (machine_of texts c.loop-token.state) (machine_of texts c.step.new.self) c.loop-token.depth.opens c.loop-token.depth.closes c.exceeds.new.self.opens c.exceeds.new.self.closes
    (omega arith) i.taken i.shallow i.opened i.closed (c.in-Taken.ensures.step texts named) c.exceeds.ensures.opens c.exceeds.ensures.closes (c.exceeds.ensures.deep c.if-exceeds.true)

pub loop-token-preserved : goal.loop-token-preserved
loop-token-preserved c =
    let i = c.loop-token.invariant in
    let texts = token_texts c.args.tokens.now in
    let named = named_at c.args.tokens.now c.loop-token.number c.loop-token.token-index _ (omega arith) i.number in
    let more = loop_more c.args.tokens.now c.loop-token.token-index _ (machine_of texts c.loop-token.state) (machine_of texts c.step.new.self) c.loop-token.depth.opens c.loop-token.depth.closes c.exceeds.new.self.opens c.exceeds.new.self.closes
    (omega arith) i.taken i.shallow i.opened i.closed i.opens_within i.closes_within (c.in-Taken.ensures.step texts named) c.exceeds.ensures.opens c.exceeds.ensures.closes (c.exceeds.ensures.shallow c.if-exceeds.false) in
    record {
      steady = c.in-Taken.ensures.steady;
      number = omega (arith, i.number);
      taken = more.taken;
      shallow = more.shallow;
      opened = more.opened;
      closed = more.closed;
      opens_within = more.opens_within;
      closes_within = more.closes_within;
    }
