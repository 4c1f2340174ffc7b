use Rattle.odata_text.proofs.Common.{arith, sym, ◌∙◌}
use Rattle.odata_text.proofs.readings.PlainTokens.{word-token}
use Rattle.odata_text.proofs.plain.word_stop.Goals as goal
use Rattle.odata_text.proofs.plain.word_stop.Goals.{else-stop-bytes-via-then-stop-bytes+else-word_goes_on, else-stop-bytes-via-else-stop-bytes}

pub returns : goal.returns
returns c =
    word-token c.args.bytes.now c.args.start c.name_end-stop.result c.requires.inside c.requires.letter c.name_end-stop.ensures (λ more.
    elim c.else-stop-bytes.branch [
      | else-stop-bytes-via-then-stop-bytes+else-word_goes_on w ↦ sym w.word_goes_on.ensures ∙ w.if-word_goes_on.false
      | else-stop-bytes-via-else-stop-bytes w ↦ let over = w.if-stop-bytes.false in absurd (omega arith)
    ])
