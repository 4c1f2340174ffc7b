use Rattle.odata_text.proofs.Common.{arith, sym, ◌∙◌}
use Rattle.odata_text.proofs.readings.PlainTokens.{number-token}
use Rattle.odata_text.proofs.plain.number_stop.Goals as goal
use Rattle.odata_text.proofs.plain.number_stop.Goals.{else-stop-bytes-via-then-stop-bytes+else-number_goes_on, else-stop-bytes-via-else-stop-bytes}

pub returns : goal.returns
returns c =
    number-token c.args.bytes.now c.args.start c.digits_end-stop.result c.requires.inside c.requires.digit c.digits_end-stop.ensures (λ more.
    elim c.else-stop-bytes.branch [
      | else-stop-bytes-via-then-stop-bytes+else-number_goes_on w ↦ sym w.number_goes_on.ensures ∙ w.if-number_goes_on.false
      | else-stop-bytes-via-else-stop-bytes w ↦ let over = w.if-stop-bytes.false in absurd (omega arith)
    ])
