use Rattle.std.proofs.Common.{length}
use Rattle.csdl_schema.specs.SchemaModel.{slots_of, type_name_at}
use Rattle.odata_syntax.specs.TextTree.{listed_tree}
use Rattle.odata_typing.proofs.scopes.Scopes.{none_there, scope_in-Empty}
use Rattle.odata_typing.proofs.untypable.Checks.{refusal_is, refusal_none}
use Rattle.odata_typing.proofs.untypable.Wholes.{refused_err, room_made, typing_ok, walked_ok}
use Rattle.odata_typing.proofs.checker.walk_text.Goals as goal

pub returns-in-Err-clause-refused : goal.returns-in-Err-clause-refused
returns-in-Err-clause-refused c = rw c.refusal_of.ensures (record {
  why = refusal_is (slots_of c.args.schema.now) (type_name_at c.args.schema.now c.args.filtered_type) c.args.text.now c.in-Err.fault c.in-Err.ensures.fault;
  none = refusal_none (slots_of c.args.schema.now) (type_name_at c.args.schema.now c.args.filtered_type) c.args.text.now c.in-Err.fault c.in-Err.ensures.none;
})

pub judge_nodes-requires-clause-context : goal.judge_nodes-requires-clause-context
judge_nodes-requires-clause-context c =
    let tree = c.in-Ok.ensures.tree in
    record {
      whole = rw c.nodes-nodes.ensures.nodes c.in-Ok.ensures.whole;
      places = rw (c.nodes-nodes.ensures.places, c.nodes-nodes.ensures.nodes) c.in-Ok.ensures.places;
      ranges = rw c.nodes-nodes.ensures.nodes c.in-Ok.ensures.ranges;
      expression = rw c.nodes-nodes.ensures.nodes (record { tokens = tree.models; length = length c.args.text.now; of_text = c.tokens_are_spelled.ensures c.args.text.now tree.models tree.tokens; parsed = tree.parse });
    }

pub judge_nodes-requires-clause-ready : goal.judge_nodes-requires-clause-ready
judge_nodes-requires-clause-ready c =
    let room = room_made c.args.walk.now.list c.make_room.new.self c.args.text.now (length c.nodes-nodes.result.now) c.in-Ok-make_room.ensures.ok in
    record {
      source = room.0;
      count = room.1;
      beside = room.2;
      there = none_there c.args.schema.now;
      fresh = c.requires.fresh;
    }

pub judge_nodes-requires-clause-scope : goal.judge_nodes-requires-clause-scope
judge_nodes-requires-clause-scope c = scope_in-Empty c.args.schema.now

pub returns-clause-walked : goal.returns-clause-walked
returns-clause-walked c =
    walked_ok c.a_list_stands_for_one_tree.ensures c.args.schema.now c.args.filtered_type c.args.text.now (listed_tree c.args.text.now c.nodes-nodes.result.now) c.judge_nodes.new.walk
    c.texts_have_few_nodes.ensures c.requires.held (rw c.nodes-nodes.ensures.nodes c.in-Ok.ensures.tree) c.judge_nodes.result c.judge_nodes.ensures.stands c.judge_nodes.ensures.truth

pub returns-clause-typing : goal.returns-clause-typing
returns-clause-typing c =
    typing_ok c.a_list_stands_for_one_tree.ensures c.args.schema.now c.args.filtered_type c.args.text.now (listed_tree c.args.text.now c.nodes-nodes.result.now) c.judge_nodes.new.walk
    (rw c.nodes-nodes.ensures.nodes c.in-Ok.ensures.tree) c.judge_nodes.result c.judge_nodes.ensures.stands c.judge_nodes.ensures.truth

pub returns-clause-refused : goal.returns-clause-refused
returns-clause-refused c =
    refused_err c.a_list_stands_for_one_tree.ensures c.args.schema.now c.args.filtered_type c.args.text.now (listed_tree c.args.text.now c.nodes-nodes.result.now) c.judge_nodes.new.walk
    c.laws_below.ensures (rw c.nodes-nodes.ensures.nodes c.in-Ok.ensures.tree) (λ other has. rw c.nodes-nodes.ensures.nodes (c.in-Ok.ensures.only other has)) c.judge_nodes.result c.judge_nodes.ensures.fault
