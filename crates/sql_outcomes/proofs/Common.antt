-- The names that several proofs of this crate cite, passed on from one file. Declares nothing.
pub use Rattle.csdl_schema.specs.ExprType.{ExprType, SingleType, collection, enumeration, null_type, primitive, single, structured}
pub use Rattle.csdl_schema.specs.SchemaModel.{PropertyModel, SchemaModel, Slots, expanded, properties_at, slots_of, type_name_at}
pub use Rattle.edm_entities.specs.HasType.{AllHaveType, HasType, IsPrimitiveValue}
pub use Rattle.edm_entities.specs.Row.{IsEntity, Row, field_by_name, val_of, value_of}
pub use Rattle.edm_values.specs.Civil.{Date, epoch_day}
pub use Rattle.edm_values.specs.Instant.{instant}
pub use Rattle.edm_values.specs.MomentParts.{IsMoment, MomentParts}
pub use Rattle.edm_values.specs.NumberTypes.{IsNumberOf, IsNumberType}
pub use Rattle.edm_values.specs.Val.{FieldVal, Val, Vals, boolean, date, fields, guid, item, items, member, moment, no_items, null, text, whole}
pub use Rattle.edm_values.specs.declared.primitive.PrimitiveType.{PrimitiveType}
pub use Rattle.edm_values.specs.declared.value.Value.{Value}
pub use Rattle.odata_checked_filter.proofs.flat.Numbered.{numbered}
pub use Rattle.odata_checked_filter.proofs.flat.Standing.{lie_onward}
pub use Rattle.odata_checked_filter.specs.Filter.{Filter, IsFilter}
pub use Rattle.odata_checked_filter.specs.Stands.{IsCallNode, IsLiteralNode, IsMemberNode, IsNameNode, IsValueOf, Stands, variable_names}
pub use Rattle.odata_checked_filter.specs.private.Stands.{AllStand, ItemsStand}
pub use Rattle.odata_checked_filter.specs.declared.checked_node.CheckedNode.{CheckedNode}
pub use Rattle.odata_checked_filter.specs.declared.checked_node.NodeKind.{NodeKind}
pub use Rattle.odata_checked_filter.specs.private.Layout.{Lies}
pub use Rattle.filter_context.proofs.Children.{body_stands, one_there}
pub use Rattle.filter_context.proofs.Extents.{further_in}
pub use Rattle.filter_context.proofs.Parts.{found_there, goes_there, inside, some_there, there_found}
pub use Rattle.filter_context.specs.private.Place.{HasKind}
pub use Rattle.odata_filter_operations.specs.ArgumentValues.{OfText, OfTextAndNumbers, OfTexts}
pub use Rattle.odata_filter_operations.specs.CalculationGives.{CalculationGives, ComputesTo, NegatedGives, number_outcome, number_val}
pub use Rattle.odata_filter_operations.specs.CallGives.{CallGives, UnlessNull, has_null}
pub use Rattle.odata_filter_operations.specs.CollectionGives.{members_of}
pub use Rattle.odata_filter_operations.specs.CompareGives.{CompareGives, GivesTruth}
pub use Rattle.odata_filter_operations.specs.FunctionGives.{FunctionGives, GivesCount, GivesText}
pub use Rattle.odata_filter_operations.specs.LambdaGives.{InGives, ItemsGive, LambdaGives, MemberGives}
pub use Rattle.odata_filter_operations.specs.LeftFirst.{After, Then}
pub use Rattle.odata_filter_operations.specs.Outcome.{Outcome, divides_by_zero, gives, overflow}
pub use Rattle.odata_filter_operations.specs.QuantifierGives.{DecisionGives, IsUndecided, Passes, QuantifierGives, undecided_val}
pub use Rattle.odata_filter_operations.specs.TruthGives.{JoinGives, LogicalGives, NotGives}
pub use Rattle.odata_functions.specs.Arithmetic.{ArithmeticGives, ComesWithin, IsDividing, MakesNumber}
pub use Rattle.odata_functions.specs.Comparable.{AreComparableBy, HaveEquality, HaveOrder}
pub use Rattle.odata_functions.specs.Comparison.{AreEqual, ComparesTrue, IsGreater, text_cmp}
pub use Rattle.odata_functions.specs.Connectives.{and3, not3, or3}
pub use Rattle.odata_functions.specs.Texts.{HasEnd, HasPart, HasStart, IsPlaceOf, IsTrimmed, part_from, rest_from}
pub use Rattle.odata_functions.specs.declared.arithmetic.ArithFault.{ArithFault}
pub use Rattle.odata_functions.specs.declared.arithmetic.ArithFault.TheVariants.{DivideByZero, Overflow}
pub use Rattle.odata_meaning.proofs.meaning.Kinds.{comparable_values}
pub use Rattle.odata_meaning.proofs.meaning.OneStep.{AtMostOne}
pub use Rattle.odata_meaning.specs.EndsOnce.{EndsOnce, EndsOnceOnEntities, IsOutcomeOf}
pub use Rattle.odata_meaning.specs.Environment.{IsFitting, bound_over, scope_of}
pub use Rattle.odata_meaning.specs.Means.{ArgumentsMean, ItemMeans, Means}
pub use Rattle.odata_meaning.specs.OperatorGives.{InType, OperatorGives, SidesGive}
pub use Rattle.odata_meaning.specs.ReadGives.{GivesMember, OperandGives, UnlessRead}
pub use Rattle.odata_ranges.proofs.Ends.{node_onward, stop_inside}
pub use Rattle.odata_ranges.proofs.Forms.{StandsIn, TypedIn, inside_there, lies, stop_there, type_there}
pub use Rattle.odata_ranges.proofs.KeptPaths.{ComesKept, IsPathType, tree_kept}
pub use Rattle.odata_ranges.proofs.Numeric.{negation_numeric, operator_numeric}
pub use Rattle.odata_ranges.proofs.StandingLies.{all_lie}
pub use Rattle.odata_ranges.proofs.TreesAt.{number_there, tree_at, tree_found}
pub use Rattle.odata_ranges.specs.Faults.{IsQuietKind}
pub use Rattle.odata_ranges.specs.Kept.{AreKept, AreKeptVariables, IsKept}
pub use Rattle.odata_ranges.specs.Ranges.{AreEntitiesKept, CheckContext, HoldsRange, IsContextOf}
pub use Rattle.odata_ranges.specs.Within.{HoldsCount, IsValueWithin, IsWithin, unbounded}
pub use Rattle.odata_ranges.specs.declared.range.Range.{Range}
pub use Rattle.odata_ranges.specs.private.Values.{IsNumeric}
pub use Rattle.odata_signatures.specs.ArgumentTypes.{AreArgumentTypes, IsArgumentPrimitive, IsArgumentType}
pub use Rattle.odata_signatures.specs.CallTyped.{FunctionTyped, TakesCount}
pub use Rattle.odata_signatures.specs.CollectionTyped.{IsCollection, IsComparableWithMembers, IsItemFor}
pub use Rattle.odata_signatures.specs.ComparableTypes.{AreAlikePrimitives, AreComparable, AreComparedBy, AreOrdered}
pub use Rattle.odata_signatures.specs.ExprTypes.{IsBooleanOrNull, IsNumberOrNull, boolean_type}
pub use Rattle.odata_signatures.specs.Functions.{IsNamed, row_of}
pub use Rattle.odata_signatures.specs.Laws.{OneType}
pub use Rattle.odata_signatures.specs.LiteralValue.{LiteralTyped, LiteralValue}
pub use Rattle.odata_signatures.specs.OperatorTyped.{IsEquality, OperatorByTypes, OperatorTyped}
pub use Rattle.odata_signatures.specs.QuotedNumber.{IsQuotedNumber, ResolvedNumber}
pub use Rattle.odata_signatures.specs.Reads.{OfEquality, ReadsNone, ReadsNumber}
pub use Rattle.odata_signatures.specs.Sides.{Between, quoted_text, side_of, sides_of}
pub use Rattle.odata_signatures.specs.TypeView.{expr_type, single_type}
pub use Rattle.odata_signatures.specs.Typed.{AreTyped, Scope, Typed}
pub use Rattle.odata_signatures.specs.declared.argument_kind.ArgumentKind.{ArgumentKind}
pub use Rattle.odata_signatures.specs.declared.edm_type.EdmType.{EdmType}
pub use Rattle.odata_signatures.specs.declared.edm_type.ValueType.{ValueType}
pub use Rattle.odata_signatures.specs.declared.function.Function.{Function}
pub use Rattle.odata_syntax.specs.Tree.{Shape, Tree, Trees, any_item, binary, call, count, in_list, in_path, it, lambda, literal, logical_not, more_trees, name, negation, no_trees, node}
pub use Rattle.odata_syntax.specs.declared.binary_operator.ArithmeticOperator.{ArithmeticOperator}
pub use Rattle.odata_syntax.specs.declared.binary_operator.BinaryOperator.{BinaryOperator}
pub use Rattle.odata_syntax.specs.declared.binary_operator.ComparisonOperator.{ComparisonOperator}
pub use Rattle.odata_syntax.specs.declared.binary_operator.LogicalOperator.{LogicalOperator}
pub use Rattle.odata_syntax.specs.declared.node.LiteralKind.{LiteralKind}
pub use Rattle.odata_syntax.specs.declared.node.Quantifier.{Quantifier}
pub use Rattle.sql_draft.proofs.BinaryNodes.{BesideIn, MeansOf, alone_side, binary_comes, means_in, means_of, only_part}
pub use Rattle.sql_draft.proofs.Composing.{front_of_front, grows_then, numbered_both, puts_as, puts_leaf, puts_one, puts_two, world_before}
pub use Rattle.sql_draft.proofs.Leaves.{MeansIn}
pub use Rattle.sql_draft.proofs.PathKinds.{IsOnWay, tree_on_way}
pub use Rattle.sql_draft.proofs.PathLeads.{path_says}
pub use Rattle.sql_draft.proofs.Places.{by_kind, found_is, stop_is}
pub use Rattle.sql_draft.specs.Growth.{Grows, IsFront}
pub use Rattle.sql_draft.specs.Kinds.{AreCompared, IsOfKind, kind_of_single, kind_of_type, single_of}
pub use Rattle.sql_outcomes.specs.private.Alike.{AreAlike}
pub use Rattle.sql_draft.specs.OperandHas.{Fits, HasNumber, IsInside, IsNodeAt, IsNodeOperand, IsNumberOperand, IsReadAt, IsSideAt, OperandHas, SourceHas, bound_source, carrier_of}
pub use Rattle.sql_outcomes.specs.private.OperandValues.{IsPut, IsSourceOf, IsTestable, IsTested, as_compared}
pub use Rattle.sql_draft.specs.Paths.{IsPathTo}
pub use Rattle.sql_draft.specs.Rows.{IsFault}
pub use Rattle.sql_draft.specs.Translated.{AreRanges, IsCarriedKind, IsKindAt, IsOfTypeAt, IsPathAt, IsStep, IsTruthAt, IsTruthKind}
pub use Rattle.sql_outcomes.specs.private.NodesThere.{HasFieldType, IsFaultless, IsOtherKind, IsPlainAt, IsValuedAt}
pub use Rattle.sql_draft.specs.World.{Has, IsAskedOf, IsWorldOf, OfPlace, Puts, Question, StandsAt, World}
pub use Rattle.sql_outcomes.specs.private.Worlds.{PutsAll, extended}
pub use Rattle.sql_draft.specs.declared.draft.Draft.{Draft}
pub use Rattle.sql_draft.specs.declared.sql_context.Kind.{Kind}
pub use Rattle.sql_draft.specs.declared.sql_operand.Operand.{Operand}
pub use Rattle.sql_draft.specs.declared.sql_operand.Source.{Source}
pub use Rattle.sql_meaning.specs.Codes.{IsCoded, OneLooked, TwoLooked, code_of}
pub use Rattle.sql_meaning.specs.FaultsGive.{FaultOfCode, fault_code, without_fault}
pub use Rattle.sql_meaning.specs.MembersGive.{LeastOf, SomeTrue, decision_at, decisions, least}
pub use Rattle.sql_meaning.specs.Operands.{BothNumbers, OfNumber, OfTruth, Over}
pub use Rattle.sql_meaning.specs.OperatorsGive.{ChoiceGives, FirstGiven, GivesBits, GivesInRange, GivesIsNull, GivesWhole, GivesWithin64, StrictlyGives, code_of_truth, is_true, truth}
pub use Rattle.sql_meaning.specs.PlaceGives.{AreMembers, BaseGives, GivesMissing, PathGives, PlaceGives}
pub use Rattle.sql_meaning.specs.SqlFunctionGives.{OfDateAlone, OfGiven, OfMomentAlone, SqlFunctionGives}
pub use Rattle.sql_meaning.specs.SqlMeans.{AllMean, NodeMeans, SqlMeans}
pub use Rattle.sql_meaning.specs.SqlTypeHolds.{IsOfType, type_of_field, type_of_primitive}
pub use Rattle.sql_meaning.specs.Table.{Asked, Bound, BoundValue, bound_member, bound_value}
pub use Rattle.sql_meaning.specs.Tables.{IsTableBesideNull, IsTableOf, IsTableOfComparison, IsTableOfNot}
pub use Rattle.sql_outcomes.specs.Calculations.{CalculatedHas, IsComputedIn, IsOfNumbers, MadeOf}
pub use Rattle.sql_outcomes.specs.Calls.{AreAlong, AreArgumentsOf, AreOfKinds, FlagsHave, IsCountOf, IsSqlFunctionOf, IsUnbound, IsUncounted}
pub use Rattle.sql_outcomes.specs.ComparedSides.{AreOpposite, CodeHas, FaultyHave, HasOrCode, IsBelow, IsComparisonOf, IsEnough, IsSide, IsSideBy, NoTruth}
pub use Rattle.sql_outcomes.specs.Connected.{chained, connected}
pub use Rattle.sql_outcomes.specs.Items.{AreItemsOf, EachCompared, EachMemberEquals, ListHas, MembersAt, any_of, some_of}
pub use Rattle.sql_outcomes.specs.Members.{AtMembers, ComesToOne, IsOrNull, IsStopAt, LambdaHas, OfTree, at_member}
pub use Rattle.sql_outcomes.specs.OperandFaults.{AllHave, ArePlain, carrier_in, fault_else, faults_of}
pub use Rattle.sql_outcomes.specs.private.BoundOperands.{AreChosen, AreValued, bound_operand, chosen, chosen_of, fault_by, fault_front, faults_front, first_fault, in_let, unfaulted_by, within_let}
pub use Rattle.sql_outcomes.specs.private.ChainTerms.{IsChain, IsConnective, TermsHave}
pub use Rattle.sql_outcomes.specs.private.FaultySides.{ComparesNothing, ComparisonHas, IsFaulty, IsFaultyKind, IsGiven, compared_in}
pub use Rattle.sql_outcomes.specs.private.Functions.{IsCarriedFunction, IsCounting, IsFirstWithin, IsFitted, IsLooselyWithin, IsTimeFunction}
pub use Rattle.sql_outcomes.specs.private.ItemValues.{AreBeside, AreMembersBeside, EachEquals, EqualsHas, IsBodyOf, IsCollectionAt, IsNeverNull, missing_front}
pub use Rattle.sql_tree.specs.Numbered.{AreNumbered, parameters_of}
pub use Rattle.sql_tree.specs.Shapes.{AreShaped, IsShaped, arity}
pub use Rattle.sql_tree.specs.Term.{Term, Terms, more_terms, no_terms, nodes_of, nodes_of_all, term}
pub use Rattle.sql_tree.specs.TreeText.{count_of}
pub use Rattle.sql_tree.specs.declared.json_path.Base.{Base}
pub use Rattle.sql_tree.specs.declared.json_path.Path.{Path}
pub use Rattle.sql_tree.specs.declared.look_up.LookUp.{LookUp}
pub use Rattle.sql_tree.specs.declared.parameter.Parameter.{Parameter}
pub use Rattle.sql_tree.specs.declared.sql_node.Carrier.{Carrier}
pub use Rattle.sql_tree.specs.declared.sql_node.Digit.{Digit}
pub use Rattle.sql_tree.specs.declared.sql_node.FieldType.{FieldType}
pub use Rattle.sql_tree.specs.declared.sql_node.SqlFunction.{SqlFunction}
pub use Rattle.sql_tree.specs.declared.sql_node.SqlNode.{SqlNode}
pub use Rattle.sql_tree.specs.declared.sql_node.SqlType.{SqlType}
pub use Rattle.sql_tree.specs.declared.tree.SqlTree.{SqlTree}
pub use Rattle.std.proofs.Common.{Bool, Err, IsTrue, List, None, Ok, Option, Result, Some, [], ap, append-nil, append_assoc, arith, false, inl, inr, is_some, length, length-append, map, negsuc, not, pos, refl, reverse, slice_index_or, subst, suc, sym, take, true, zero, ℕ, ℤ, ◌*◌, ◌++◌, ◌+◌, ◌<ℤ◌, ◌<◌, ◌^◌, ◌↔◌, ◌∙◌, ◌∷◌, ◌≡◌, ◌≢◌, ◌≤ℤ◌, ◌≤◌, ◌⊎◌, lit<}
pub use Rattle.std.proofs.lemmas.Bool.{cases_lt}
pub use Rattle.std.proofs.lemmas.Int.{by_lt_z, ints}
pub use Rattle.std.proofs.lemmas.List.{length-reverse, reverse-append}
pub use Rattle.std.proofs.lemmas.Option.{slice_get-map, slice_get_within}
pub use Rattle.std.specs.Int.{bit_at, w32, w64}
pub use Rattle.std.specs.List.{AllByRecursion}
pub use Rattle.std.specs.Prelude.{All, FitsSigned, IsSomeAnd, encode_utf8_all, int_lt, option_map, slice_get, ◌*ℤ◌, ◌+ℤ◌, ◌-ℤ◌}
pub use Rattle.std.specs.Str.{chars}
