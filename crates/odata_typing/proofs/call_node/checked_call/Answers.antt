use Rattle.std.proofs.Common.{◌+◌, subst, List, ℕ}
use Rattle.std.specs.Str.{str_to_ascii_lowercase}
use Rattle.odata_signatures.specs.Functions.{IsNamed}
use Rattle.odata_typing.specs.private.CheckContexts.{name_of}
use Rattle.odata_typing.specs.private.Variables.{scope_of}
use Rattle.odata_typing.proofs.placed.Called.{called, uncalled}
use Rattle.odata_typing.proofs.placed.Rows.{row_of}
use Rattle.odata_typing.proofs.call_node.checked_call.Goals as goal

pub first_types-count-requires : goal.first_types-count-requires
first_types-count-requires c =
    let context = c.args.context.now in
    let judged = c.args.judged.now in
    let of = row_of context.schema.now context.filtered_type (scope_of context) c.args.walk.now c.requires.arguments.0 (judged.number + 1) judged.stop c.requires.arguments.1 in
    (of.0, of.1.in_row)

pub returns-in-Ok : goal.returns-in-Ok
returns-in-Ok c = λ arguments over.
    let context = c.args.context.now in
    let schema = context.schema.now in
    let judged = c.args.judged.now in
    let old = c.args.walk.now in
    let of = row_of schema context.filtered_type (scope_of context) old arguments (judged.number + 1) judged.stop over in
    let asked : List ℕ = str_to_ascii_lowercase (name_of context judged) in
    let named = subst (λ (text : List ℕ). IsNamed c.in-Ok.call.function (str_to_ascii_lowercase text)) c.text_in.ensures c.in-Ok.ensures.named in
    called c.laws_below.ensures context judged old c.put_nameless.new.self asked arguments of.0 _ c.put_nameless.result c.requires.ready of.1
    (c.first_types-count.ensures.first of.0 of.1.in_row)
    c.in-Ok.call.function c.kind_of.result c.in-Ok.call.edm_type named (c.in-Ok.ensures.typed schema) (c.in-Ok.ensures.there schema) (c.kind_of.ensures asked named)
    c.put_nameless.ensures.goes_on c.put_nameless.ensures.put

pub returns-in-Err : goal.returns-in-Err
returns-in-Err c = λ arguments over.
    let context = c.args.context.now in
    let schema = context.schema.now in
    let judged = c.args.judged.now in
    let old = c.args.walk.now in
    let of = row_of schema context.filtered_type (scope_of context) old arguments (judged.number + 1) judged.stop over in
    let asked : List ℕ = str_to_ascii_lowercase (name_of context judged) in
    uncalled c.laws_below.ensures context judged old c.refuse.new.self asked arguments of.0 _ c.refuse.result c.requires.ready of.1
    (c.first_types-count.ensures.first of.0 of.1.in_row)
    c.in-Err.fault c.code_of.result
    (rw c.text_in.ensures at c.in-Err.ensures.none schema) (rw c.text_in.ensures at c.in-Err.ensures.reason schema) c.code_of.ensures
    c.refuse.ensures.stops c.refuse.ensures.fault
