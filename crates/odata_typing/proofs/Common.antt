-- The names that several proofs of this crate cite, passed on from one file. Declares nothing.
pub use Rattle.csdl_schema.specs.ExprType.{ExprType, SingleType, collection, enumeration, single, structured}
pub use Rattle.csdl_schema.specs.SchemaModel.{HoldsEnumeration, HoldsType, IsEnumerationByName, PropertyModel, PropertyType, SchemaModel, Slots, declared, enumeration_at, enumeration_named, is_enumeration, is_kind_at, navigation, opaque, place_if, properties_at, slot_named, slots_of, type_name_at}
pub use Rattle.odata_checked_filter.specs.FlatTree.{FlatTree, tree_of_nodes}
pub use Rattle.odata_checked_filter.specs.ListChanges.{IsKeptOutside, node_put, nothing_yet, number_put, with_room, with_value}
pub use Rattle.odata_checked_filter.specs.Stands.{ChildrenStand, HasOwnValue, HasValue, IsCallNode, IsKindOf, IsLiteralNode, IsNameNode, NumberStands, ResolvedStands, Stands, text_of_shape, variable_names}
pub use Rattle.odata_checked_filter.specs.private.Stands.{AllStand, ItemsStand}
pub use Rattle.odata_checked_filter.specs.declared.checked_node.CheckedNode.{CheckedNode}
pub use Rattle.odata_signatures.specs.Considered.{ChildrenTyped, IsAmong, IsBodyInScope, IsConsidered, IsConsideredBody, IsConsideredChild, children_in_scope, considers_below, considers_itself}
pub use Rattle.odata_signatures.specs.ExprTypes.{IsBooleanOrNull, boolean_type, string_type}
pub use Rattle.odata_signatures.specs.FirstUntypable.{IsFirstUntypable, IsReason, IsTypeFault, IsUntypable, LambdaReason, LiteralReason, NameReason, OperandReason, PropertyReason, StepReason, code_of_call}
pub use Rattle.odata_signatures.specs.Laws.{FewNodes, FirstBelow, OneNameAndText, TypedIsClear}
pub use Rattle.odata_signatures.specs.QuotedNumber.{HasNumber, IsQuotedNumber, IsResolvedBy, LacksNumber, ResolvedNumber}
pub use Rattle.odata_signatures.specs.Reads.{OfEquality, OneLacksNumber, ReadsNone}
pub use Rattle.odata_signatures.specs.Side.{Side, quoting}
pub use Rattle.odata_signatures.specs.Sides.{BeforeList, Between, quoted_text, side_of, sides_of}
pub use Rattle.odata_signatures.specs.TypeThere.{IsTypeThere}
pub use Rattle.odata_signatures.specs.TypeView.{expr_type, single_type}
pub use Rattle.odata_signatures.specs.Typed.{AreTyped, BindsVariable, IsTyped, IsUntyped, NameTyped, OperandTyped, OperandsTyped, PropertyTyped, Scope, StepTyped, Typed, named_type, property_named, variable_type, with_variable}
pub use Rattle.odata_signatures.specs.declared.refusal.TypeFault.{TypeFault}
pub use Rattle.odata_syntax.specs.Places.{AreBefore, ArePlaces, AreSideBySide, BeginsBody, IsPlaced, first_at, first_over, lambda_at, lambda_of, nodes_before, number_at, places_of, roots_back, stop_at}
pub use Rattle.odata_syntax.specs.PostOrder.{AreFedBack, IsWholeTree, Texts, child_count, last_tree, last_trees, shape_over, tree_count_back, trees_back, trees_before, trees_in, trees_left, trees_with}
pub use Rattle.odata_syntax.specs.Spans.{IsWithin, children_of, in_child, is_root, list_of_trees}
pub use Rattle.odata_syntax.specs.TextTree.{HasNoTree, HasText, IsFirstFault, IsTextRange, listed_tree, text_in}
pub use Rattle.odata_syntax.specs.Tree.{Shape, Tree, call, in_list, it, lambda, literal, name, node, shape_of, start_of, stop_of, trees_of_list}
pub use Rattle.odata_syntax.specs.declared.node.Quantifier.{Quantifier}
pub use Rattle.odata_syntax.specs.declared.node_places.Place.{Place}
pub use Rattle.odata_syntax.specs.declared.syntax_list.SyntaxNode.{SyntaxNode}
pub use Rattle.odata_typing.specs.declared.check_context.CheckContext.{CheckContext}
pub use Rattle.odata_typing.specs.declared.check_context.Judged.{Judged}
pub use Rattle.odata_typing.specs.declared.judged_list.Walk.{Walk}
pub use Rattle.odata_typing.specs.private.CheckContexts.{IsContext, IsNodeAt, IsNodeReady, IsReady, IsRun, name_of, run_tree, whole_tree}
pub use Rattle.odata_typing.specs.private.Forms.{InfixByTypes, InfixReason, InfixTyped, IsInfix, UnaryTyped, infix_shape, unary_code, unary_kind, unary_shape}
pub use Rattle.odata_typing.specs.private.Judging.{AreChildren, AreLastTrees, IsIdle, IsJudged, IsNodeJudged, IsPut, IsStanding, IsTreeJudged, StandInRow}
pub use Rattle.odata_typing.specs.private.LawsBelow.{LawsBelow}
pub use Rattle.odata_typing.specs.private.Rows.{AreInRow, AreTypesThere, quoted_beside, quoted_in, row_sides}
pub use Rattle.odata_typing.specs.private.Variables.{AreThere, IsNamedBy, scope_in, scope_of, types_in}
pub use Rattle.odata_typing.specs.private.Walks.{IsNumberPut, IsReadPut, checked, list_put, truth_type, walk_put, walk_refused}
pub use Rattle.std.proofs.Common.{Bool, Bor, Err, FitsSigned, IfErr, IfNone, IfOk, IfSome, IsSomeAnd, IsTrue, List, MatchOption, None, Ok, Option, Result, Some, SomeIff, [], ap, arith, drop, false, get_or, inl, inr, length, length-append, length-drop, length-set, length-take, map, position, refl, replicate, reverse, rules, slice_get, slice_set, subst, suc, sym, take, true, zero, ℕ, ℤ, ◌++◌, ◌+◌, ◌-◌, ◌<◌, ◌↔◌, ◌∙◌, ◌∷◌, ◌≡◌, ◌≢◌, ◌≤◌, ◌⊎◌}
pub use Rattle.std.proofs.lemmas.List.{append_assoc, append_cancel_right, drop-append-le, drop-drop, drop-take, get_or-drop, length-map, length-replicate, length-reverse, length-take-le, map-append, nil_from_length, reverse-append, reverse-reverse, take-append-drop, take-append-le, take-take, take_all, take_at, take_more, take_more_set}
pub use Rattle.std.proofs.lemmas.Option.{get_or_from_slice_get, none-some, same_Some, slice_get-get_or, slice_get-map, slice_get_cases, slice_get_past, slice_get_within}
pub use Rattle.std.specs.List.{AllByRecursion, Contains, position_or_len, slice_range}
