use Rattle.odata_text.proofs.Common.{arith, refl, sym, ◌∙◌, ap, identifier_run}
use Rattle.odata_text.proofs.readings.Places.{boundary-behind, left_out-literal, longest-of, run_on}
use Rattle.odata_text.proofs.any_token.token_at.Goals as goal

pub returns-in-LeftOut-clause-fault : goal.returns-in-LeftOut-clause-fault
returns-in-LeftOut-clause-fault c =
    let longest = longest-of c.args.text.now c.range_from.result.now c.args.start c.in-Some.length c.in-Some.form _ c.range_from.ensures.value c.in-LeftOut.is c.in-Some.ensures in
    λ before. (refl, left_out-literal c.args.text.now c.args.start c.in-Some.length c.in-LeftOut.field-0 longest)

pub range_from-requires-then-is_undelimited : goal.range_from-requires-then-is_undelimited
range_from-requires-then-is_undelimited c =
    let longest = longest-of c.args.text.now c.range_from.result.now c.args.start c.in-Some.length c.in-Some.form _ c.range_from.ensures.value c.in-Token.is c.in-Some.ensures in
    λ some. boundary-behind c.args.text.now c.args.start c.in-Some.length c.in-Token.kind c.utf8.text c.requires.boundary longest

pub returns-then-behind-gt0-clause-fault : goal.returns-then-behind-gt0-clause-fault
returns-then-behind-gt0-clause-fault c =
    let longest = longest-of c.args.text.now c.range_from.result.now c.args.start c.in-Some.length c.in-Some.form _ c.range_from.ensures.value c.in-Token.is c.in-Some.ensures in
    let behind = c.identifier_run-behind.ensures.value ∙ ap identifier_run c.range_from-then-is_undelimited.ensures.value in
    λ before. (refl, run_on c.args.text.now c.args.start c.in-Some.length c.identifier_run-behind.result c.in-Token.kind longest (sym c.is_undelimited.ensures ∙ c.if-is_undelimited.true) behind (omega arith))

pub range-requires-clause-end_boundary : goal.range-requires-clause-end_boundary
range-requires-clause-end_boundary c =
    let longest = longest-of c.args.text.now c.range_from.result.now c.args.start c.in-Some.length c.in-Some.form _ c.range_from.ensures.value c.in-Token.is c.in-Some.ensures in
    boundary-behind c.args.text.now c.args.start c.in-Some.length c.in-Token.kind c.utf8.text c.requires.boundary longest

pub returns-clause-boundary : goal.returns-clause-boundary
returns-clause-boundary c =
    let longest = longest-of c.args.text.now c.range_from.result.now c.args.start c.in-Some.length c.in-Some.form _ c.range_from.ensures.value c.in-Token.is c.in-Some.ensures in
    boundary-behind c.args.text.now c.args.start c.in-Some.length c.in-Token.kind c.utf8.text c.requires.boundary longest
