-- The names that several proofs of this crate cite, passed on from one file. Declares nothing.
pub use Rattle.csdl_schema.specs.ExprType.{ExprType}
pub use Rattle.csdl_schema.specs.SchemaModel.{slots_of, type_name_at}
pub use Rattle.edm_entities.specs.HasType.{HasType}
pub use Rattle.edm_values.specs.Civil.{Date}
pub use Rattle.edm_values.specs.Instant.{instant}
pub use Rattle.edm_values.specs.MomentLiteral.{MomentValue, moment_spelling}
pub use Rattle.edm_values.specs.MomentParts.{IsMoment, MomentParts}
pub use Rattle.edm_values.specs.PlainVal.{plain_val}
pub use Rattle.edm_values.specs.Val.{FieldVal, Val, Vals, boolean, date, fields, guid, item, items, member, moment, no_items, null, text, whole}
pub use Rattle.edm_values.specs.declared.primitive.PrimitiveType.{PrimitiveType}
pub use Rattle.edm_values.specs.declared.value.Value.{Value}
pub use Rattle.odata_checked_filter.proofs.flat.Standing.{lie_onward, lies_nonempty}
pub use Rattle.odata_checked_filter.specs.Filter.{Filter, IsFilter}
pub use Rattle.odata_checked_filter.specs.Stands.{Stands}
pub use Rattle.odata_checked_filter.specs.declared.checked_node.CheckedNode.{CheckedNode}
pub use Rattle.odata_checked_filter.specs.declared.checked_node.NodeKind.{NodeKind}
pub use Rattle.odata_checked_filter.specs.private.Layout.{AllLie}
pub use Rattle.filter_context.proofs.Children.{one_there}
pub use Rattle.filter_context.proofs.Parts.{found_there, goes_there, inside, some_there, there_found}
pub use Rattle.filter_context.specs.private.Place.{HasKind}
pub use Rattle.odata_filter_operations.specs.CalculationGives.{ComputesTo, GivesNumber, number_outcome, number_val}
pub use Rattle.odata_filter_operations.specs.CallGives.{UnlessNull, has_null}
pub use Rattle.odata_filter_operations.specs.CollectionGives.{AnyItemGives, CountGives, members_of}
pub use Rattle.odata_filter_operations.specs.CompareGives.{CompareGives, GivesTruth}
pub use Rattle.odata_filter_operations.specs.FunctionGives.{FunctionGives}
pub use Rattle.odata_filter_operations.specs.LeftFirst.{After, Then}
pub use Rattle.odata_filter_operations.specs.Outcome.{GivesSome, Outcome, divides_by_zero, gives, overflow}
pub use Rattle.odata_filter_operations.specs.QuantifierGives.{QuantifierGives, undecided_val}
pub use Rattle.odata_filter_operations.specs.TruthGives.{LogicalGives}
pub use Rattle.odata_functions.specs.Arithmetic.{ArithmeticGives, ComesWithin, IsDividing}
pub use Rattle.odata_functions.specs.Comparison.{AreEqual, ComparesTrue}
pub use Rattle.odata_functions.specs.Connectives.{and3, not3, or3}
pub use Rattle.odata_functions.specs.declared.arithmetic.ArithFault.{ArithFault}
pub use Rattle.odata_functions.specs.declared.arithmetic.ArithFault.TheVariants.{DivideByZero, Overflow}
pub use Rattle.odata_meaning.specs.EndsOnce.{EndsOnceOnEntities, IsOutcomeOf}
pub use Rattle.odata_meaning.specs.Environment.{scope_of}
pub use Rattle.odata_ranges.proofs.Ends.{node_onward}
pub use Rattle.odata_ranges.proofs.Forms.{inside_there, stop_there}
pub use Rattle.odata_ranges.proofs.StandingLies.{all_lie, items_lie}
pub use Rattle.odata_ranges.specs.Faults.{IsQuietKind}
pub use Rattle.odata_ranges.specs.Kept.{IsKept}
pub use Rattle.odata_ranges.specs.Reach.{HoldsNumber, IsBounded, LiesBetween}
pub use Rattle.odata_ranges.specs.Within.{IsWithin, NeverFaults}
pub use Rattle.odata_ranges.specs.declared.range.Range.{Range}
pub use Rattle.odata_signatures.specs.CallTyped.{TakesCount}
pub use Rattle.odata_signatures.specs.Functions.{IsNamed, row_of}
pub use Rattle.odata_signatures.specs.Laws.{OneLiteralValue, OneType}
pub use Rattle.odata_signatures.specs.TypeView.{expr_type}
pub use Rattle.odata_signatures.specs.Typed.{Scope, Typed}
pub use Rattle.odata_signatures.specs.declared.edm_type.EdmType.{EdmType}
pub use Rattle.odata_signatures.specs.declared.edm_type.ValueType.{ValueType}
pub use Rattle.odata_signatures.specs.declared.function.Function.{Function}
pub use Rattle.odata_syntax.specs.Tree.{Tree, Trees, call, count, in_list, more_trees, no_trees, node}
pub use Rattle.odata_syntax.specs.declared.binary_operator.ArithmeticOperator.{ArithmeticOperator}
pub use Rattle.odata_syntax.specs.declared.binary_operator.BinaryOperator.{BinaryOperator}
pub use Rattle.odata_syntax.specs.declared.binary_operator.ComparisonOperator.{ComparisonOperator}
pub use Rattle.odata_syntax.specs.declared.binary_operator.LogicalOperator.{LogicalOperator}
pub use Rattle.odata_syntax.specs.declared.node.LiteralKind.{LiteralKind}
pub use Rattle.odata_syntax.specs.declared.node.Quantifier.{Quantifier}
pub use Rattle.sql_draft.proofs.BinaryNodes.{MeansOf, means_in, means_of}
pub use Rattle.sql_draft.proofs.Composing.{by_node, front_of_front, grown, grows_then, numbered_both, on_both, on_ok, puts_as, puts_leaf, puts_one, puts_three, puts_two, world_before}
pub use Rattle.sql_draft.proofs.Leaves.{literal_spelled, literal_there, literal_within, now_there}
pub use Rattle.sql_draft.proofs.PathLeads.{path_later, path_on, path_says}
pub use Rattle.sql_draft.proofs.Places.{by_kind}
pub use Rattle.sql_draft.specs.Growth.{Grows, GrowsBy, IsDeeper, IsFront}
pub use Rattle.sql_outcomes.specs.private.Growth.{GrowsByText}
pub use Rattle.sql_draft.specs.Kinds.{AreCompared, IsOfKind, kind_of_single, kind_of_type, single_of}
pub use Rattle.sql_outcomes.specs.private.Alike.{AreAlike}
pub use Rattle.sql_draft.specs.OperandHas.{Fits, IsInside, IsNodeAt, IsNodeOperand, IsReadAt, IsSideAt, IsUnread, OperandHas, SourceHas, bound_source, carrier_of}
pub use Rattle.sql_outcomes.specs.private.OperandValues.{ComparedHas, HasLoosely, HasValue, IsPut, IsSourceOf, IsTestable, IsTested, NullHas, SomeNull, as_compared}
pub use Rattle.sql_draft.specs.private.Spelled.{IsLiteralAt}
pub use Rattle.sql_draft.specs.Paths.{IsPathTo, PutsMemberPath, PutsPath}
pub use Rattle.sql_draft.specs.Rows.{IsFault}
pub use Rattle.sql_draft.specs.Translated.{AreRanges, IsCarriedKind, IsKindAt, IsOfTypeAt, IsPathAt, IsStep, IsTruthAt, IsTruthKind, question_of}
pub use Rattle.sql_outcomes.specs.private.NodesThere.{HasFieldType, IsBooleanAt, IsFaultless, IsOtherKind, IsPlainAt, IsValuedAt}
pub use Rattle.sql_draft.specs.World.{Has, IsAskedOf, IsWorldOf, OfPlace, Puts, Question, Says, World}
pub use Rattle.sql_outcomes.specs.private.Worlds.{PutsAll, extended}
pub use Rattle.sql_draft.specs.declared.draft.Draft.{Draft}
pub use Rattle.sql_draft.specs.declared.sql_context.Kind.{Kind}
pub use Rattle.sql_draft.specs.declared.sql_operand.Operand.{Operand}
pub use Rattle.sql_draft.specs.declared.sql_operand.Source.{Source}
pub use Rattle.sql_forms.proofs.answers.WhereOk.{where_ok}
pub use Rattle.sql_forms.specs.declared.lift.Lifted.{Lifted}
pub use Rattle.sql_forms.specs.declared.terms.Form.{Form}
pub use Rattle.sql_forms.specs.private.Calculated.{CheckedHas, DivisorHas, IsNumberIn, PlainHas, UnlessZeroHas, WideHas, ZeroHas}
pub use Rattle.sql_forms.specs.private.Called.{CalledHas, FunctionHas, carried_nodes}
pub use Rattle.sql_forms.specs.private.Joins.{IsJoin, IsOfBoth, IsOfValues}
pub use Rattle.sql_forms.specs.private.Compared.{BesideNullHas, IsComparedIn, StrictHas}
pub use Rattle.sql_forms.specs.private.Lifts.{IsLifted, IsOpened, carried_front, let_nodes}
pub use Rattle.sql_forms.specs.private.Lists.{AllCompare, AmongHas, AreConstants, AsCode, EqualCodesOrNull, FaultyOrNull, HasMemberHas, IsAtPath, IsMemberOperand, IsPlainValue, MemberHas, NullBeside, kept_form}
pub use Rattle.sql_forms.specs.private.Bodies.{PutsBody, body_form, coded_undecided}
pub use Rattle.sql_meaning.specs.Codes.{IsCoded, OneLooked, TwoLooked, code_of}
pub use Rattle.sql_meaning.specs.FaultsGive.{outcome_of_fault, without_fault}
pub use Rattle.sql_meaning.specs.MembersGive.{AtEach, DecidedGives, SomeTrue, decision_at, decisions}
pub use Rattle.sql_meaning.specs.Operands.{BothNumbers, OfNumber, Over}
pub use Rattle.sql_meaning.specs.OperatorsGive.{ChoiceGives, FirstGiven, GivesBits, GivesInRange, GivesIsNull, GivesWhole, GivesWithin64, StrictlyGives, code_of_truth, is_true, truth}
pub use Rattle.sql_meaning.specs.ParameterGives.{ParameterGives}
pub use Rattle.sql_meaning.specs.PlaceGives.{AreMembers, BaseGives, GivesMissing, IsScalar, PathGives, PlaceGives, SlotGives, StepsGive}
pub use Rattle.sql_meaning.specs.SqlFunctionGives.{OfGiven, SqlFunctionGives}
pub use Rattle.sql_meaning.specs.SqlMeans.{AllMean, AmongGives, AreValues, CountedGives, EachEqual, MissingGives, NodeMeans, SqlMeans}
pub use Rattle.sql_meaning.specs.SqlTypeHolds.{IsOfType, type_of_field, type_of_primitive}
pub use Rattle.sql_meaning.specs.Table.{Asked, Bound, BoundValue, bound_member, bound_value}
pub use Rattle.sql_meaning.specs.Tables.{IsTableBesideNull, IsTableOf, IsTableOfComparison, IsTableOfNot}
pub use Rattle.sql_outcomes.specs.Calculations.{CalculatedHas, IsComputedIn, IsOfNumbers, MadeOf}
pub use Rattle.sql_outcomes.specs.Calls.{AreAlong, AreArgumentsOf, AreOfKinds, FlagsHave, IsSqlFunctionOf, IsUnbound, IsUncounted}
pub use Rattle.sql_outcomes.specs.ComparedSides.{AreOpposite, CodeHas, FaultyHave, HasOrCode, IsComparisonOf, IsEnough, IsSide, IsSideBy, NoTruth}
pub use Rattle.sql_outcomes.specs.Connected.{chained, connected}
pub use Rattle.sql_outcomes.specs.Items.{AreItemsOf, EachCompared, EachMemberEquals, ListHas, MembersAt, any_of, some_of}
pub use Rattle.sql_outcomes.specs.Members.{AtMembers, IsOrNull, IsStopAt, LambdaHas, OfTree, OverHas, at_member}
pub use Rattle.sql_outcomes.specs.OperandFaults.{AllHave, ArePlain, carrier_in, fault_else, faults_of}
pub use Rattle.sql_outcomes.specs.private.BoundOperands.{AreChosen, bound_operand, chosen, chosen_of, faults_front, first_fault, within_let}
pub use Rattle.sql_outcomes.specs.private.ChainTerms.{ChainHas, IsChain, IsConnective, TermsHave}
pub use Rattle.sql_outcomes.specs.private.FaultySides.{ComparesNothing, ComparisonHas, IsFaulty, IsFaultyKind, IsGiven, compared_in}
pub use Rattle.sql_outcomes.specs.private.Functions.{IsCarriedFunction, IsCounting, IsFirstWithin, IsFitted, IsLooselyWithin, IsTimeFunction}
pub use Rattle.sql_outcomes.specs.private.ItemValues.{AreBeside, AreMembersBeside, EachEquals, EqualsHas, IsBodyOf, IsCollectionAt, IsNeverNull, missing_front}
pub use Rattle.sql_tree.specs.Digits.{number_of}
pub use Rattle.sql_tree.specs.Numbered.{AreNumbered, named_by, parameters_of}
pub use Rattle.sql_tree.specs.Shapes.{IsShaped, arity, arity_of_function}
pub use Rattle.sql_tree.specs.Term.{Term, Terms, more_terms, no_terms, nodes_of, nodes_of_all, term}
pub use Rattle.sql_tree.specs.declared.json_path.Base.{Base}
pub use Rattle.sql_tree.specs.declared.json_path.Path.{Path}
pub use Rattle.sql_tree.specs.declared.look_up.LookUp.{LookUp}
pub use Rattle.sql_tree.specs.declared.parameter.Parameter.{Parameter}
pub use Rattle.sql_tree.specs.declared.sql_node.Carrier.{Carrier}
pub use Rattle.sql_tree.specs.declared.sql_node.Digit.{Digit}
pub use Rattle.sql_tree.specs.declared.sql_node.FieldType.{FieldType}
pub use Rattle.sql_tree.specs.declared.sql_node.SqlFunction.{SqlFunction}
pub use Rattle.sql_tree.specs.declared.sql_node.SqlNode.{SqlNode}
pub use Rattle.sql_tree.specs.declared.sql_node.SqlType.{SqlType}
pub use Rattle.sql_tree.specs.declared.tree.SqlTree.{SqlTree}
pub use Rattle.std.proofs.Common.{Bool, Err, IsTrue, List, None, Ok, OnOk, Option, Result, Some, String, Vec, [], ap, append-nil, append_assoc, arith, drop, false, get_or, inl, inr, is_some, length, length-append, length-drop, length-take-le, map, max, not, pos, refl, reverse, rules, subst, suc, sym, take, take-append-drop, true, zero, ℕ, ℤ, ◌*◌, ◌++◌, ◌+◌, ◌-◌, ◌/◌, ◌<ℤ◌, ◌<◌, ◌==◌, ◌↔◌, ◌∙◌, ◌∷◌, ◌≡◌, ◌≢◌, ◌≤◌, ◌⊎◌}
pub use Rattle.std.proofs.Math.Nat.{le-max_left, le-max_right, max-le}
pub use Rattle.std.proofs.Math.Seq.{take-length}
pub use Rattle.std.proofs.lemmas.Bool.Decides.{Decides-eqb}
pub use Rattle.std.proofs.lemmas.Int.{ints}
pub use Rattle.std.proofs.lemmas.List.{nil_from_length, reverse-append}
pub use Rattle.std.proofs.lemmas.Option.{slice_get-get_or, slice_get-map, slice_get_read, slice_get_within}
pub use Rattle.std.specs.Int.{w64}
pub use Rattle.std.specs.List.{AllByRecursion}
pub use Rattle.std.specs.Prelude.{All, FitsSigned, IfNone, IfSome, IsSomeAnd, MatchOption, option_map, slice_get, string_bytes}
pub use Rattle.std.specs.declared.alloc.Global.{Global}
