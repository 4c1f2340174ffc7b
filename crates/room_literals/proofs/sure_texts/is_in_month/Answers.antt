use Rattle.std.proofs.Common.{◌≡◌, ◌+◌, ◌/◌, ◌%◌, ◌≤◌, get_or, arith}
use Rattle.std.proofs.lemmas.Bool.{leb-true}
use Rattle.room_literals.proofs.LiteralTexts.{day_there}
use Rattle.room_literals.proofs.sure_texts.is_in_month.Goals as goal

pub returns-then-day-ge1 : goal.returns-then-day-ge1
returns-then-day-ge1 c done =
    let b = c.args.bytes.now in
    let i = c.args.from in
    let month = c.two-month.result in
    let day = c.two-day.result in
    let m0 : get_or b (i + 5) 0 ≡ 48 + month / 10 = omega arith in
    let m1 : get_or b (i + 6) 0 ≡ 48 + month % 10 = omega arith in
    let d0 : get_or b (i + 8) 0 ≡ 48 + day / 10 = omega arith in
    let d1 : get_or b (i + 9) 0 ≡ 48 + day % 10 = omega arith in
    day_there b i month day c.requires.room c.requires.spelled m0 m1 d0 d1 (omega arith) (omega arith) (omega arith) (leb-true _ _ done)
