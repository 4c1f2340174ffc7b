-- What a call evaluates to, by what its arguments do: the first fault, or what the function makes of their values.
use Rattle.sql_outcomes.proofs.Common.{◌≡◌, ◌≢◌, ◌⊎◌, inl, inr, ◌+◌, ◌∷◌, [], ℕ, List, Bool, true, false, map, refl, sym, ap, subst, ◌∙◌, slice_get, IsMoment, IsNumberType, Val, null, PrimitiveType, ExprType, SchemaModel, Slots, slots_of, type_name_at, value_of, Tree, Trees, more_trees, no_trees, node, AreArgumentTypes, IsArgumentPrimitive, IsArgumentType, FunctionTyped, IsNamed, row_of, expr_type, ArgumentKind, EdmType, ValueType, Function, OneType, AreTyped, Scope, Typed, AllStand, Stands, CheckedNode, NodeKind, EndsOnceOnEntities, scope_of, ArgumentsMean, HasKind, found_there, CallGives, UnlessNull, has_null, FunctionGives, Then, Outcome, gives, overflow, divides_by_zero, IsValueWithin, Range, without_fault, SqlType, Operand, Source, Kind, AreAlong, AreArgumentsOf, AreOfKinds, IsFirstWithin, IsLooselyWithin, NoTruth, kind_of_type, type_of_primitive, AllHave, ArePlain, fault_else, faults_of, Fits, IsNodeAt, OperandHas, SourceHas, AreRanges, IsAskedOf, OfPlace, Question, World, MeansOf, means_in, means_of, by_kind, stop_is}
use Rattle.sql_outcomes.proofs.outcomes.Apart.{null_kind}
use Rattle.sql_outcomes.proofs.nodes.WorldNodes.{comes, node_fits, node_plain}
use Rattle.sql_outcomes.proofs.nodes.Along.{too_few, too_many}

-- ---- the kinds of arguments

-- values of the kind are arguments of that kind
abbrev pub SuitsKind : ArgumentKind → Kind → Type 0
SuitsKind kind Kind.Null = Unit {0}
SuitsKind ArgumentKind.Text (Kind.Value SqlType.Text) = Unit {0}
SuitsKind ArgumentKind.Number (Kind.Value SqlType.Whole) = Unit {0}
SuitsKind ArgumentKind.DateOrMoment (Kind.Value SqlType.Date) = Unit {0}
SuitsKind ArgumentKind.DateOrMoment (Kind.Value SqlType.Moment) = Unit {0}
SuitsKind ArgumentKind.Moment (Kind.Value SqlType.Moment) = Unit {0}
SuitsKind kind k = ⊥

abbrev pub AllSuit : List ArgumentKind → List Operand → Type 0
AllSuit kinds [] = Unit {0}
AllSuit [] (operand ∷ operands) = ⊥
AllSuit (kind ∷ kinds) (operand ∷ operands) = SuitsKind kind operand.kind × AllSuit kinds operands

number_suits : (p : PrimitiveType) → IsNumberType p → SuitsKind ArgumentKind.Number (Kind.Value (type_of_primitive p))
number_suits PrimitiveType.Byte is = tt
number_suits PrimitiveType.SByte is = tt
number_suits PrimitiveType.Int16 is = tt
number_suits PrimitiveType.Int32 is = tt
number_suits PrimitiveType.Int64 is = tt
number_suits p is = absurd is

primitive_suits : (kind : ArgumentKind) (p : PrimitiveType) → IsArgumentPrimitive kind p → SuitsKind kind (Kind.Value (type_of_primitive p))
primitive_suits ArgumentKind.Text p is = subst (λ (q : PrimitiveType). SuitsKind ArgumentKind.Text (Kind.Value (type_of_primitive q))) (sym is) tt
primitive_suits ArgumentKind.Number p is = number_suits p is
primitive_suits ArgumentKind.DateOrMoment p (inl is) = subst (λ (q : PrimitiveType). SuitsKind ArgumentKind.DateOrMoment (Kind.Value (type_of_primitive q))) (sym is) tt
primitive_suits ArgumentKind.DateOrMoment p (inr is) = subst (λ (q : PrimitiveType). SuitsKind ArgumentKind.DateOrMoment (Kind.Value (type_of_primitive q))) (sym is) tt
primitive_suits ArgumentKind.Moment p is = subst (λ (q : PrimitiveType). SuitsKind ArgumentKind.Moment (Kind.Value (type_of_primitive q))) (sym is) tt

pub argument_suits : (schema : SchemaModel) (kind : ArgumentKind) (type : EdmType) → IsArgumentType kind (expr_type schema type) → SuitsKind kind (kind_of_type type)
argument_suits schema kind EdmType.Null is = tt
argument_suits schema kind (EdmType.Single (ValueType.Prim p)) is = primitive_suits kind p is
argument_suits schema kind _ is = absurd is

-- no argument is a truth value
pub suits_no_truth : (kind : ArgumentKind) (k : Kind) → SuitsKind kind k → k ≢ Kind.Value SqlType.Truth
suits_no_truth ArgumentKind.Text k suits is = subst (SuitsKind ArgumentKind.Text) is suits
suits_no_truth ArgumentKind.Number k suits is = subst (SuitsKind ArgumentKind.Number) is suits
suits_no_truth ArgumentKind.DateOrMoment k suits is = subst (SuitsKind ArgumentKind.DateOrMoment) is suits
suits_no_truth ArgumentKind.Moment k suits is = subst (SuitsKind ArgumentKind.Moment) is suits

-- ---- values and faults

-- the value, or null instead of a fault
abbrev pub value_or_null : Outcome → Val
value_or_null (gives v) = v
value_or_null _ = null

pub unfaulted : (os : List Outcome) → map without_fault os ≡ map gives (map value_or_null os)
unfaulted [] = refl
unfaulted (gives v ∷ os) = ap (λ (xs : List Outcome). gives v ∷ xs) (unfaulted os)
unfaulted (_ ∷ os) = ap (λ (xs : List Outcome). gives null ∷ xs) (unfaulted os)

abbrev SomeFault : List Outcome → Type 0
SomeFault [] = ⊥
SomeFault (gives v ∷ os) = SomeFault os
SomeFault (o ∷ os) = Unit {0}

null_in : (v : Val) (values : List Val) → has_null values ≡ true → has_null (v ∷ values) ≡ true
null_in null values is = refl
null_in _ values is = is

fault_is_null : (os : List Outcome) → SomeFault os → has_null (map value_or_null os) ≡ true
fault_is_null [] some = absurd some
fault_is_null (gives v ∷ os) some = null_in v (map value_or_null os) (fault_is_null os some)
fault_is_null (_ ∷ os) some = refl

values_again : (values : List Val) → map value_or_null (map gives values) ≡ values
values_again [] = refl
values_again (v ∷ values) = ap (λ (vs : List Val). v ∷ vs) (values_again values)

no_faults : (values : List Val) (rest : Outcome) → rest ≡ faults_of (map gives values) rest
no_faults [] rest = refl
no_faults (v ∷ values) rest = no_faults values rest

-- each value fits its operand and lies within its range
abbrev pub AllFit : List Operand → List Outcome → Type 0
AllFit [] [] = Unit {0}
AllFit (operand ∷ operands) (o ∷ os) = ((v : Val) → o ≡ gives v → Fits operand v × IsValueWithin operand.range v) × AllFit operands os
AllFit operands os = ⊥

pub kinds_of : (operands : List Operand) (os : List Outcome) → AllFit operands os → AreOfKinds operands (map value_or_null os)
kinds_of [] [] fit = tt
kinds_of [] (o ∷ os) fit = absurd fit
kinds_of (operand ∷ operands) [] fit = absurd fit
kinds_of (operand ∷ operands) (gives v ∷ os) fit = ((fit.0 v refl).0.kind, kinds_of operands os fit.1)
kinds_of (operand ∷ operands) (_ ∷ os) fit = (null_kind operand.kind, kinds_of operands os fit.1)

loosely : (range : Range) (v : Val) → IsValueWithin range v → IsLooselyWithin range v
loosely range null within = tt
loosely range _ within = within

pub first_of : (operands : List Operand) (os : List Outcome) → AllFit operands os → IsFirstWithin operands (map value_or_null os)
first_of [] [] fit = tt
first_of [] (o ∷ os) fit = absurd fit
first_of (operand ∷ operands) [] fit = absurd fit
first_of (operand ∷ operands) (gives v ∷ os) fit = loosely operand.range v (fit.0 v refl).1
first_of (operand ∷ operands) (_ ∷ os) fit = tt

-- ---- arguments

abbrev AllGive : List Outcome → (List Val → Outcome → Type 0) → Outcome → Type 0
AllGive os Goes o = ((values : List Val) × (os ≡ map gives values) × Goes values o) ⊎ (SomeFault os × ((rest : Outcome) → o ≡ faults_of os rest))

module _ (question : Question) (types : OneType) (ends : EndsOnceOnEntities) (is_moment : IsMoment question.now.civil question.now.offset_minutes) (world : World) (seen : IsAskedOf question world)
    (ranges : List Range) (are : AreRanges question ranges) where
  -- all of them evaluate to something
  pub record AllCome (kinds : List ArgumentKind) (operands : List Operand) : Type 0 where
    pub os : List Outcome
    pub suit : AllSuit kinds operands
    pub have : AllHave question.filter operands world os
    pub plain : ArePlain operands os
    pub fit : AllFit operands os

  record ArgumentsCome (kinds : List ArgumentKind) (operands : List Operand) (Goes : List Val → Outcome → Type 0) (o : Outcome) : Type 0 where
    all : AllCome kinds operands
    given : AllGive all.os Goes o

  abbrev slots : Slots
  slots = slots_of question.filter.schema

  abbrev root : List ℕ
  root = type_name_at question.filter.schema question.filter.filtered

  abbrev scope : Scope
  scope = scope_of world.environment

  abbrev At : ℕ → Operand → Type 0
  At = IsNodeAt question.filter ranges

  -- one argument, whatever it evaluates to
  module _ (kinds : List ArgumentKind) (kind : ArgumentKind) (operand : Operand) (suits : SuitsKind kind operand.kind) (operands : List Operand) (at : ℕ) (is : IsNodeAt question.filter ranges at operand) (no_truth : NoTruth operand) where
    has_it : (p : Outcome) → OfPlace question.filter at world p → OperandHas question.filter operand world p
    has_it p has = subst (λ (s : Source). SourceHas question.filter s world p) (sym is.source) has

    fits_it : (p : Outcome) → OfPlace question.filter at world p → (v : Val) → p ≡ gives v → Fits operand v × IsValueWithin operand.range v
    fits_it p has v same =
        let has_v : OfPlace question.filter at world (gives v) = subst (OfPlace question.filter at world) same has in
        (node_fits question ends is_moment world seen ranges are operand at is.is v has_v, are.within at operand.range world (gives v) is.is.range seen has_v)

    -- before the others
    abbrev with_one : (p : Outcome) → OfPlace question.filter at world p → AllCome kinds operands → AllCome (kind ∷ kinds) (operand ∷ operands)
    with_one p has rest = record {
      os = p ∷ rest.os;
      suit = (suits, rest.suit);
      have = (has_it p has, rest.have);
      plain = (node_plain question ends is_moment world seen ranges are operand at is.is no_truth p has, rest.plain);
      fit = (fits_it p has, rest.fit);
    }

    -- a value, and the others
    of_value : (Goes : List Val → Outcome → Type 0) (o : Outcome) (v : Val) → OfPlace question.filter at world (gives v) → ArgumentsCome kinds operands (λ values. Goes (v ∷ values)) o → ArgumentsCome (kind ∷ kinds) (operand ∷ operands) Goes o
    of_value Goes o v has rest = record {
      all = with_one (gives v) has rest.all;
      given = elim rest.given [
        | inl all ↦ inl (v ∷ all.0, ap (λ (xs : List Outcome). gives v ∷ xs) all.1, all.2)
        | inr some ↦ inr some
      ];
    }

    -- a fault, whatever the others evaluate to
    of_fault : (Goes : List Val → Outcome → Type 0) (o f : Outcome) → SomeFault (f ∷ []) → ((rest : Outcome) → o ≡ fault_else f rest) → OfPlace question.filter at world f → AllCome kinds operands → ArgumentsCome (kind ∷ kinds) (operand ∷ operands) Goes o
    of_fault Goes o f fault stays has others = record {
      all = with_one f has others;
      given = inr (first_fault f fault, λ rest. stays (faults_of others.os rest));
    }
      where
        first_fault : (p : Outcome) → SomeFault (p ∷ []) → SomeFault (p ∷ others.os)
        first_fault (gives v) is_it = absurd is_it
        first_fault _ is_it = tt

  suits_it : (kind : ArgumentKind) (type : ExprType) (at stop : ℕ) (tree : Tree) (operand : Operand) → IsNodeAt question.filter ranges at operand
      → Stands question.filter.schema question.filter.filtered scope question.filter.list at stop tree → Typed slots root scope tree type → IsArgumentType kind type → SuitsKind kind operand.kind
  suits_it kind type at stop (node from to shape) operand is stands typed argument =
      let top_type : expr_type question.filter.schema stands.top.found.edm_type ≡ type =
      types slots root scope (node from to shape) (expr_type question.filter.schema stands.top.found.edm_type) type stands.top.typed typed in
      let same_node : stands.top.found ≡ is.is.node = cc (stands.top.stands_at, is.is.at) in
      subst (SuitsKind kind) (sym is.is.kind)
      (argument_suits question.filter.schema kind is.is.node.edm_type
      (subst (λ (n : CheckedNode). IsArgumentType kind (expr_type question.filter.schema n.edm_type)) same_node (subst (IsArgumentType kind) (sym top_type) argument)))

  all_come : (kinds : List ArgumentKind) (at stop : ℕ) (trees : Trees) (given_types : List ExprType) (operands : List Operand)
      → AllStand question.filter.schema question.filter.filtered scope question.filter.list at stop trees → AreTyped slots root scope trees given_types → AreArgumentTypes kinds given_types
      → AreAlong question.filter At at stop operands → AllCome kinds operands
  all_come kinds at stop no_trees given_types [] stand typed arguments along = record { os = []; suit = tt; have = refl; plain = tt; fit = tt }
  all_come kinds at stop no_trees given_types (operand ∷ operands) stand typed arguments along = absurd (too_many question.filter At at stop operand operands along stand)
  all_come kinds at stop (more_trees tree more) given_types [] stand typed arguments along = absurd (too_few question.filter scope at stop tree more stand along)
  all_come kinds at stop (more_trees tree more) [] (operand ∷ operands) stand typed arguments along = absurd typed
  all_come [] at stop (more_trees tree more) (type ∷ given_types) (operand ∷ operands) stand typed arguments along = absurd arguments
  all_come (kind ∷ kinds) at stop (more_trees tree more) (type ∷ given_types) (operand ∷ operands) stand typed arguments along =
      let is : IsNodeAt question.filter ranges at operand = along.3 in
      let suits = suits_it kind type at stand.middle tree operand is stand.left typed.0 arguments.0 in
      let no_truth = suits_no_truth kind operand.kind suits in
      let stops : along.0.stop ≡ stand.middle = stop_is question.filter.schema question.filter.filtered scope question.filter.list at along.0 along.1 stand.middle tree stand.left in
      let rest = all_come kinds stand.middle stop more given_types operands stand.right typed.1 arguments.1 (subst (λ (k : ℕ). AreAlong question.filter At k stop operands) stops along.4) in
      let p = comes question ends is_moment world seen at is.is.node is.is.at stand.middle tree stand.left in
      with_one kinds kind operand suits operands at is no_truth p.0 p.1 rest

  -- one after another, up to the first fault
  arguments_come : (kinds : List ArgumentKind) (at stop : ℕ) (trees : Trees) (given_types : List ExprType) (operands : List Operand) (Goes : List Val → Outcome → Type 0) (o : Outcome)
      → AllStand question.filter.schema question.filter.filtered scope question.filter.list at stop trees → AreTyped slots root scope trees given_types → AreArgumentTypes kinds given_types
      → AreAlong question.filter At at stop operands
      → ArgumentsMean slots root world.now (value_of world.row) world.environment trees Goes o → ArgumentsCome kinds operands Goes o
  arguments_come kinds at stop no_trees given_types [] Goes o stand typed arguments along given = record { all = record { os = []; suit = tt; have = refl; plain = tt; fit = tt }; given = inl ([], refl, given) }
  arguments_come kinds at stop no_trees given_types (operand ∷ operands) Goes o stand typed arguments along given = absurd (too_many question.filter At at stop operand operands along stand)
  arguments_come kinds at stop (more_trees tree more) given_types [] Goes o stand typed arguments along given = absurd (too_few question.filter scope at stop tree more stand along)
  arguments_come kinds at stop (more_trees tree more) [] (operand ∷ operands) Goes o stand typed arguments along given = absurd typed
  arguments_come [] at stop (more_trees tree more) (type ∷ given_types) (operand ∷ operands) Goes o stand typed arguments along given = absurd arguments
  arguments_come (kind ∷ kinds) at stop (more_trees tree more) (type ∷ given_types) (operand ∷ operands) Goes o stand typed arguments along given =
      by (λ v goes. arguments_come kinds stand.middle stop more given_types operands (λ values. Goes (v ∷ values)) o stand.right typed.1 arguments.1 further goes) given.0 given.1.0 given.1.1
    where
      is : IsNodeAt question.filter ranges at operand
      is = along.3

      suits : SuitsKind kind operand.kind
      suits = suits_it kind type at stand.middle tree operand is stand.left typed.0 arguments.0

      no_truth : NoTruth operand
      no_truth = suits_no_truth kind operand.kind suits

      further : AreAlong question.filter At stand.middle stop operands
      further =
          subst (λ (k : ℕ). AreAlong question.filter At k stop operands)
          (stop_is question.filter.schema question.filter.filtered scope question.filter.list at along.0 along.1 stand.middle tree stand.left) along.4

      others : AllCome kinds operands
      others = all_come kinds stand.middle stop more given_types operands stand.right typed.1 arguments.1 further

      of_place : (p : Outcome) → MeansOf question world seen tree p → OfPlace question.filter at world p
      of_place p means = (tree, record { stop = stand.middle; stands = stand.left }, means_in question world seen tree p means)

      by : ((v : Val) → ArgumentsMean slots root world.now (value_of world.row) world.environment more (λ values. Goes (v ∷ values)) o → ArgumentsCome kinds operands (λ values. Goes (v ∷ values)) o) → (p : Outcome) → MeansOf question world seen tree p
          → Then p (λ v. ArgumentsMean slots root world.now (value_of world.row) world.environment more (λ values. Goes (v ∷ values))) o → ArgumentsCome (kind ∷ kinds) (operand ∷ operands) Goes o
      by next (gives v) means goes = of_value kinds kind operand suits operands at is no_truth Goes o v (of_place (gives v) means) (next v goes)
      by next overflow means same = of_fault kinds kind operand suits operands at is no_truth Goes o overflow tt (λ rest. same) (of_place overflow means) others
      by next divides_by_zero means same = of_fault kinds kind operand suits operands at is no_truth Goes o divides_by_zero tt (λ rest. same) (of_place divides_by_zero means) others

  -- ---- the call

  -- its arguments evaluate to these, and it to the first fault of them, or what the function makes of their values
  pub record CallComes (function : Function) (operands : List Operand) (o : Outcome) : Type 0 where
    pub all : AllCome (row_of function).arguments operands
    pub inner : Outcome
    pub given : CallGives world.now function (map value_or_null all.os) inner
    pub is : o ≡ faults_of all.os inner

  of_arguments : (function : Function) (operands : List Operand) (o : Outcome) → ArgumentsCome (row_of function).arguments operands (CallGives world.now function) o → CallComes function operands o
  of_arguments function operands o come = elim come.given [
    | inl all ↦ record {
      all = come.all;
      inner = o;
      given = subst (λ (vs : List Val). CallGives world.now function vs o) (sym (ap (λ (xs : List Outcome). map value_or_null xs) all.1 ∙ values_again all.0)) all.2;
      is = no_faults all.0 o ∙ ap (λ (xs : List Outcome). faults_of xs o) (sym all.1);
    }
    | inr some ↦ record {
      all = come.all;
      inner = gives null;
      given = null_given (map value_or_null come.all.os) (fault_is_null come.all.os some.0);
      is = some.1 (gives null);
    }
  ]
    where
      null_given : (values : List Val) → has_null values ≡ true → CallGives world.now function values (gives null)
      null_given values none = of_flag (has_null values) none
        where
          of_flag : (b : Bool) → b ≡ true → UnlessNull b (FunctionGives world.now function values) (gives null)
          of_flag true is = refl
          of_flag false is = absurd (cc)

  pub call_comes : (one_name : (f g : Function) (asked : List ℕ) → IsNamed f asked → IsNamed g asked → f ≡ g) (place : ℕ) (function : Function) (operands : List Operand)
      → HasKind question.filter.list place (NodeKind.Call function) → AreArgumentsOf question.filter ranges place operands → (o : Outcome) → OfPlace question.filter place world o → CallComes function operands o
  call_comes one_name place function operands here arguments o has =
      by_kind question.filter.schema question.filter.filtered scope question.filter.list place (NodeKind.Call function) here
      (λ stop tree. MeansOf question world seen tree o → CallComes function operands o)
      (λ asked trees named later stop from to stands means.
      let typed = stands.top.typed in
      let called : FunctionTyped function typed.types (expr_type question.filter.schema stands.top.found.edm_type) =
      subst (λ (f : Function). FunctionTyped f typed.types (expr_type question.filter.schema stands.top.found.edm_type)) (one_name typed.call_typed.function function asked typed.call_typed.named named) typed.call_typed.typed in
      let same : means.function ≡ function = one_name means.function function asked means.named named in
      let top = found_there (λ (n : CheckedNode). AreAlong question.filter At (place + 1) n.stop operands) (slice_get question.filter.list.nodes place) stands.top.found stands.top.stands_at arguments in
      of_arguments function operands o
      (arguments_come (row_of function).arguments (place + 1) stop trees typed.types operands (CallGives world.now function) o stands.children typed.arguments_typed called.arguments
      (subst (λ (k : ℕ). AreAlong question.filter At (place + 1) k operands) stands.top.last top)
      (subst (λ (f : Function). ArgumentsMean slots root world.now (value_of world.row) world.environment trees (CallGives world.now f) o) same means.given)))
      has.1.stop has.0 has.1.stands (means_of question world seen has.0 o has.2)
