-- The names that several proofs of this crate cite, passed on from one file. Declares nothing.
pub use Rattle.csdl_schema.specs.ExprType.{ExprType, SingleType, collection, enumeration, null_type, primitive, single, structured}
pub use Rattle.csdl_schema.specs.SchemaModel.{PropertyModel, PropertyType, SchemaModel, Slots, declared, expanded, navigation, opaque, properties_at, slot_named, slots_of, type_name_at}
pub use Rattle.edm_entities.specs.HasType.{AllHaveType, HasType, IsPrimitiveValue}
pub use Rattle.edm_values.specs.Civil.{Date, epoch_day}
pub use Rattle.edm_values.specs.MomentParts.{IsFourDigitYear, IsMoment, MomentParts}
pub use Rattle.edm_values.specs.NumberTypes.{IsNumberOf, IsNumberType}
pub use Rattle.edm_values.specs.Val.{FieldVal, Val, Vals, absent, boolean, date, fields, item, items, moment, no_items, null, present, text, whole}
pub use Rattle.edm_values.specs.declared.primitive.PrimitiveType.{PrimitiveType}
pub use Rattle.edm_values.specs.declared.primitive.PrimitiveType.TheVariants.{Int16, Int32, Int64}
pub use Rattle.edm_values.specs.declared.value.Value.{Value}
pub use Rattle.odata_checked_filter.proofs.flat.Children.{body_there, one_there, two_there}
pub use Rattle.odata_checked_filter.proofs.flat.Lying.{stands_lie}
pub use Rattle.odata_checked_filter.proofs.flat.Numbered.{numbered}
pub use Rattle.odata_checked_filter.proofs.flat.Places.{found_before, same_found}
pub use Rattle.odata_checked_filter.proofs.flat.Standing.{lie_onward, lies_nonempty}
pub use Rattle.odata_checked_filter.specs.Filter.{Filter, IsFilter, tree_of_filter}
pub use Rattle.odata_checked_filter.specs.FlatTree.{FlatTree}
pub use Rattle.odata_checked_filter.specs.Stands.{ChildrenStand, HasOwnValue, HasValue, InBody, InLine, IsCallNode, IsKindOf, IsLiteralNode, IsMemberNode, IsNameNode, IsValueOf, NumberStands, ResolvedStands, SideBySide, Stands, variable_names}
pub use Rattle.odata_checked_filter.specs.private.Stands.{AllStand, ItemsStand}
pub use Rattle.odata_checked_filter.specs.declared.checked_node.CheckedNode.{CheckedNode}
pub use Rattle.odata_checked_filter.specs.declared.checked_node.NodeKind.{NodeKind}
pub use Rattle.odata_checked_filter.specs.private.Layout.{AllLie, ChildrenLie, Lies}
pub use Rattle.filter_context.proofs.Children.{body_stands}
pub use Rattle.filter_context.proofs.Operands.{IsOther, one_kind}
pub use Rattle.filter_context.proofs.Parts.{CasesOf, found_there, inside, some_there, there_found}
pub use Rattle.odata_filter_operations.specs.CalculationGives.{CalculationGives, GivesNumber, NegatedGives, number_outcome}
pub use Rattle.odata_filter_operations.specs.CallGives.{CallGives, UnlessNull, has_null}
pub use Rattle.odata_filter_operations.specs.CollectionGives.{AnyItemGives, CountGives, members_of}
pub use Rattle.odata_filter_operations.specs.CompareGives.{CompareGives, GivesTruth}
pub use Rattle.odata_filter_operations.specs.FunctionGives.{FunctionGives, GivesCount, GivesText}
pub use Rattle.odata_filter_operations.specs.HasGives.{HasGives}
pub use Rattle.odata_filter_operations.specs.LambdaGives.{InGives, ItemsGive, LambdaGives, MemberGives}
pub use Rattle.odata_filter_operations.specs.LeftFirst.{After, Then}
pub use Rattle.odata_filter_operations.specs.Outcome.{GivesSome, Outcome, divides_by_zero, gives, overflow}
pub use Rattle.odata_filter_operations.specs.TruthGives.{JoinGives, LogicalGives, NotGives, joined, truth_val}
pub use Rattle.odata_functions.proofs.Divisions.{division, one_quotient, one_remainder}
pub use Rattle.odata_functions.specs.Arithmetic.{ArithmeticGives, ComesWithin, IsDividing, MakesNumber, NumbersGive}
pub use Rattle.odata_functions.specs.Comparison.{ComparesTrue}
pub use Rattle.odata_functions.specs.Promotion.{is_int32, is_int64, negation_type, promotion, wider_type}
pub use Rattle.odata_functions.specs.declared.arithmetic.ArithFault.{ArithFault}
pub use Rattle.odata_functions.specs.declared.arithmetic.ArithFault.TheVariants.{DivideByZero, Overflow}
pub use Rattle.odata_meaning.specs.EndsOnce.{IsOutcomeOf, TypedEndsOnce}
pub use Rattle.odata_meaning.specs.Environment.{Environment, bound_over, scope_of, variable_value}
pub use Rattle.odata_meaning.specs.Means.{ArgumentsMean, ItemMeans, Means}
pub use Rattle.odata_meaning.specs.NameGives.{FieldGives, FoundGives, NameGives, StepGives}
pub use Rattle.odata_meaning.specs.OperatorGives.{InType, OperatorGives, SidesGive}
pub use Rattle.odata_meaning.specs.ReadGives.{GivesMember}
pub use Rattle.odata_ranges.specs.private.FunctionRanges.{AreWithin, CalledWithin, IsSpellable}
pub use Rattle.odata_ranges.specs.Faults.{AreQuiet, AreQuietThere, AreReportedFrom, IsQuietKind, IsQuietType, MakesNone, ReportsFaults}
pub use Rattle.odata_ranges.specs.Kept.{AreKept, AreKeptVariables, IsKept, IsKeptProperty, IsNullOnlyIf, property_takes_null}
pub use Rattle.odata_ranges.specs.Owners.{BelongsTo, IsOwnerAt, NamesSlotOf}
pub use Rattle.odata_ranges.specs.Ranges.{AreRangesFrom, CheckContext, HoldsRange, IsContextOf, IsRangeAt, MeansIn}
pub use Rattle.odata_ranges.specs.Reach.{HoldsNumber, IsBounded, IsSmall, LiesBetween}
pub use Rattle.odata_ranges.specs.private.Reach.{Attains, IsMade, IsOneOf, Reaches}
pub use Rattle.odata_ranges.specs.Within.{HasFault, HoldsCount, IsUpTo, IsValueWithin, IsWithin, unbounded}
pub use Rattle.odata_ranges.specs.private.Reach.{CalculatesWithin}
pub use Rattle.odata_ranges.specs.declared.node_form.NodeForm.{NodeForm}
pub use Rattle.odata_ranges.specs.declared.range.Range.{Range}
pub use Rattle.odata_ranges.specs.private.Called.{IsCalledRange}
pub use Rattle.odata_ranges.specs.private.NodeForm.{AreKnownAfter, HasForm, IsOwnRange, form_of}
pub use Rattle.odata_ranges.specs.private.OperatorRanges.{CoversFaults, CoversNulls, HoldsArithmetic, HoldsOperator, IsNumericIn}
pub use Rattle.odata_ranges.specs.private.Values.{AllPlaced, Covers, CoversLine, HoldsValues, IsNumeric, LieBetween}
pub use Rattle.odata_signatures.specs.CollectionTyped.{IsCollection}
pub use Rattle.odata_signatures.specs.ExprTypes.{IsNumberOrNull, number_or_null}
pub use Rattle.odata_signatures.specs.Functions.{IsNamed, row_of}
pub use Rattle.odata_signatures.specs.Laws.{OneLiteralValue, OneType}
pub use Rattle.odata_signatures.specs.LiteralValue.{LiteralTyped, LiteralValue}
pub use Rattle.odata_signatures.specs.OperatorTyped.{IsEquality, NegationTyped, OperatorByTypes}
pub use Rattle.odata_signatures.specs.TypeView.{expr_type}
pub use Rattle.odata_signatures.specs.Typed.{AreTyped, OperandTyped, PropertyTyped, Scope, StepTyped, Typed, named_type, property_named, variable_type, with_variable}
pub use Rattle.odata_signatures.specs.declared.edm_type.EdmType.{EdmType}
pub use Rattle.odata_signatures.specs.declared.edm_type.ValueType.{ValueType}
pub use Rattle.odata_signatures.specs.declared.function.Function.{Function}
pub use Rattle.odata_syntax.specs.Tree.{Shape, Tree, Trees, any_item, binary, call, count, has, in_list, in_path, it, lambda, literal, logical_not, member, more_trees, name, negation, no_trees, node}
pub use Rattle.odata_syntax.specs.declared.binary_operator.ArithmeticOperator.{ArithmeticOperator}
pub use Rattle.odata_syntax.specs.declared.binary_operator.BinaryOperator.{BinaryOperator}
pub use Rattle.odata_syntax.specs.declared.binary_operator.BinaryOperator.TheVariants.{Arithmetic, Comparison, Logical}
pub use Rattle.odata_syntax.specs.declared.binary_operator.ComparisonOperator.{ComparisonOperator}
pub use Rattle.odata_syntax.specs.declared.binary_operator.ComparisonOperator.TheVariants.{Eq}
pub use Rattle.odata_syntax.specs.declared.node.LiteralKind.{LiteralKind}
pub use Rattle.odata_syntax.specs.declared.node.Quantifier.{Quantifier}
pub use Rattle.odata_syntax.specs.declared.node.Quantifier.TheVariants.{All, Any}
pub use Rattle.std.proofs.Common.{Bool, Err, IsUtf8, List, None, Ok, Option, Result, Some, [], ap, arith, cond, drop, false, find, get_or, inl, inr, int_div, int_rem, length, length-append, length-drop, length-set, lit<, map, nat_eq, neg_ℤ, negsuc, pos, position, refl, rules, slice_get, slice_set, subst, suc, sym, take, true, unsigned_abs, zero, ℕ, ℤ, ◌*ℤ◌, ◌*◌, ◌++◌, ◌+◌, ◌-ℤ◌, ◌-◌, ◌/◌, ◌<ℤ◌, ◌<◌, ◌||◌, ◌↔◌, ◌∙◌, ◌∷◌, ◌≡◌, ◌≢◌, ◌≤ℤ◌, ◌≤◌, ◌⊎◌}
pub use Rattle.std.proofs.Math.Nat.{div-mul-le_self, le-div_iff_mul-le, mod-le, mul-le-mul_left, mul-le-mul_right}
pub use Rattle.std.proofs.lemmas.Int.{by_lt_z, fits_signed_mul, ints, to_z-of_z}
pub use Rattle.std.proofs.lemmas.Option.{slice_get-get_or, slice_get_within}
pub use Rattle.std.specs.Cmp.Lexicographic.{pointwise}
pub use Rattle.std.specs.Int.{w128, w32, w64}
pub use Rattle.std.specs.List.{AllByRecursion, position_or_len}
pub use Rattle.std.specs.Prelude.{FitsSigned, IfSome, IsSomeAnd, MatchOption, slice_index}
