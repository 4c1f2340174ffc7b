use Rattle.odata_text.proofs.Common.{◌<◌, length, arith, ne_eqb}
use Rattle.odata_text.proofs.readings.PlainTokens.{text-token}
use Rattle.odata_text.proofs.plain.text_stop.Goals as goal
use Rattle.odata_text.proofs.plain.text_stop.Goals.{else-stop-bytes-via-then-stop-bytes+else-bytes-stop-eq39, else-stop-bytes-via-else-stop-bytes}

pub returns : goal.returns
returns c =
    let within = c.next_quote-last.ensures.within in
    let other = c.if-last-bytes.false in
    let here : c.next_quote-last.result < length c.args.bytes.now = omega arith in
    text-token c.args.bytes.now c.args.start c.next_quote-last.result c.requires.inside c.requires.quote c.next_quote-last.ensures here (λ more.
    elim c.else-stop-bytes.branch [
      | else-stop-bytes-via-then-stop-bytes+else-bytes-stop-eq39 w ↦ ne_eqb _ 39 w.if-bytes-stop-eq39.false
      | else-stop-bytes-via-else-stop-bytes w ↦ let over = w.if-stop-bytes.false in absurd (omega arith)
    ])
