use Rattle.odata_text.proofs.Common.{List, ℕ, subst, IsUtf8}
use Rattle.odata_text.specs.Scanning.{text_of}
use Rattle.odata_text.specs.private.PlainTokens.{IsTokenBetween}
use Rattle.odata_text.proofs.readings.PlainTokens.{boundary-token}
use Rattle.odata_text.proofs.readings.Scanners.{begins_after_gap}
use Rattle.odata_text.proofs.scanner.Scanner.next_token.Goals as goal

pub take-requires-clause-begins : goal.take-requires-clause-begins
take-requires-clause-begins c =
    begins_after_gap (text_of c.args.self.now) c.as_bytes.result.now c.args.self.now.stop c.skip_spaces-start.result c.as_bytes.ensures.value c.as_bytes.ensures.utf8 c.requires.ends c.skip_spaces-start.ensures.gap

pub take-requires-clause-ends : goal.take-requires-clause-ends
take-requires-clause-ends c =
    boundary-token (text_of c.args.self.now) c.skip_spaces-start.result c.in-Some.stop c.in-Some.kind (subst IsUtf8 c.as_bytes.ensures.value c.as_bytes.ensures.utf8)
    (begins_after_gap (text_of c.args.self.now) c.as_bytes.result.now c.args.self.now.stop c.skip_spaces-start.result c.as_bytes.ensures.value c.as_bytes.ensures.utf8 c.requires.ends c.skip_spaces-start.ensures.gap)
    (subst (λ (xs : List ℕ). IsTokenBetween xs c.in-Some.kind c.skip_spaces-start.result c.in-Some.stop) c.as_bytes-2.ensures.value c.in-Some.ensures)

pub take_other-requires-clause-begins : goal.take_other-requires-clause-begins
take_other-requires-clause-begins c =
    begins_after_gap (text_of c.args.self.now) c.as_bytes.result.now c.args.self.now.stop c.skip_spaces-start.result c.as_bytes.ensures.value c.as_bytes.ensures.utf8 c.requires.ends c.skip_spaces-start.ensures.gap
