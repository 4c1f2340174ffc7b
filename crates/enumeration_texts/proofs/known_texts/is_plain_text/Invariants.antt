use Rattle.json.specs.Written.{PlainBetween}
use Rattle.enumeration_texts.proofs.known_texts.is_plain_text.Given as goal

-- the bytes so far are plain
abbrev pub invariant-loop-k : goal.invariant-loop-k
invariant-loop-k l = PlainBetween l.bytes 0 l.k
