use Rattle.std.proofs.Common.{◌≡◌, ℕ, ◌-◌, ◌<◌, ◌^◌, length, take, drop, sym, subst, length-take-le}
use Rattle.std.proofs.lemmas.Int.Digits.{digits_value-lt}
use Rattle.std.specs.Str.Parse.{digits_value}
use Rattle.json_room.proofs.Whole.{written_stands}
use Rattle.json_room.proofs.numbers.whole_at.Goals as goal

pub returns-clause-whole : goal.returns-clause-whole
returns-clause-whole c =
    let f = c.in-Some in
    written_stands c.args.line.now c.args.place f.end f.number f.ensures.bounds.0 f.ensures.bounds.1 (c.starts_whole.ensures c.if-not-starts_whole.false) f.ensures.writes

pub returns-clause-few : goal.returns-clause-few
returns-clause-few c =
    let f = c.in-Some in
    let s = take (f.end - c.args.place) (drop c.args.place c.args.line.now) in
    let long : length s ≡ f.end - c.args.place = length-take-le (f.end - c.args.place) (drop c.args.place c.args.line.now) f.ensures.writes.within in
    subst (λ (m : ℕ). m < 10 ^ (f.end - c.args.place)) (sym f.ensures.writes.value) (subst (λ (k : ℕ). digits_value 10 s < 10 ^ k) long (digits_value-lt 10 s f.ensures.writes.all))
