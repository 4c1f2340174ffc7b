use Rattle.sql_forms.proofs.Common.{false, refl, SqlType, Operand, Source, Kind}
use Rattle.sql_forms.proofs.answers.AlongAnswers.{node_side, number_side}
use Rattle.sql_forms.proofs.list_forms.push_side.Goals as goal

pub returns-in_ok-push-in-Some : goal.returns-in_ok-push-in-Some
returns-in_ok-push-in-Some c =
    let x : Operand = record { source = Source.Number c.in-Some.value; kind = Kind.Value SqlType.Member; range = c.plain.result } in (
      x,
      number_side c.args.context.now.checked.now c.args.context.now.ranges.now c.args.place c.in-Some.value x c.in-Some.ensures.some refl refl false refl c.plain.ensures,
      c.in_ok-push-in-Some.ensures.items,
    )

pub returns-in_ok-push-in-None : goal.returns-in_ok-push-in-None
returns-in_ok-push-in-None c =
    let x : Operand = record { source = Source.Node c.args.place; kind = c.kind.result; range = c.range.result } in (
      x,
      node_side c.args.context.now.checked.now c.args.context.now.ranges.now c.args.place x c.in-None.ensures.none refl c.kind.ensures c.range.ensures,
      c.in_ok-push-in-None.ensures.items,
    )
