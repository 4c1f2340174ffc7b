-- The laws of nodes, by what they rest on.
use Rattle.sql_outcomes.proofs.Common.{◌≡◌, ◌+◌, ℕ, List, map, refl, slice_get, CheckedNode, NodeKind, BinaryOperator, EndsOnceOnEntities, OneType, Function, IsNamed, AreEntitiesKept, found_there, inside, some_there}
use Rattle.sql_outcomes.specs.NodesGo.{CalculationsGo, CallsGo, ComparisonsGo, ConnectivesGo, FlagsGo, LambdasGo, ListsGo, NegationsGo, PathsGo}
use Rattle.sql_outcomes.proofs.nodes.ArithmeticNodes.{calculated_node}
use Rattle.sql_outcomes.proofs.nodes.CallNodes.{call_comes, unfaulted, value_or_null}
use Rattle.sql_outcomes.proofs.nodes.ChildPlaces.{operator_inside, second_child}
use Rattle.sql_outcomes.proofs.nodes.ComparisonsAt.{binary_compares}
use Rattle.sql_outcomes.proofs.nodes.ConnectedNodes.{connected_node}
use Rattle.sql_outcomes.proofs.nodes.Contexts.{WhatFits, paths_by_laws}
use Rattle.sql_outcomes.proofs.nodes.FlagNodes.{flags_come}
use Rattle.sql_outcomes.proofs.nodes.InPathNodes.{at_place, in_path_comes}
use Rattle.sql_outcomes.proofs.nodes.ListNodes.{Decided, list_comes}
use Rattle.sql_outcomes.proofs.nodes.MemberWorlds.{lambda_comes}
use Rattle.sql_outcomes.proofs.nodes.NotNodes.{negates}
use Rattle.sql_outcomes.proofs.nodes.Sides.{OneNumber}

pub negations_go : NegationsGo
negations_go question place here world o seen has = negates question.filter place here world o has

module _ (ends : EndsOnceOnEntities) where
  pub connectives_go : ConnectivesGo
  connectives_go question ranges connective place second ranged here stops =
      let filter = question.filter in
      let operator = BinaryOperator.Logical connective in
      let left = some_there (λ (n : CheckedNode). n.stop ≡ second) (slice_get filter.list.nodes (place + 1)) stops in
      let right = at_place filter.list.nodes second
      (second_child filter ranged.right place (NodeKind.Binary operator) (operator_inside filter ranged.right place operator) here second stops) in
      λ world o seen has. connected_node question ends ranged.moment operator connective refl place second here left.0 right.0 left.1.0 right.1 left.1.1 world o seen has

  module _ (types : OneType) where
    pub calculations_go : CalculationsGo
    calculations_go question ranges operator type place second left right ranged here computed stops left_is right_is =
        let is_second = found_there (λ (n : CheckedNode). n.stop ≡ second) (slice_get question.filter.list.nodes (place + 1)) left_is.is.node left_is.is.at stops in
        let within = inside (λ (n : CheckedNode). n.kind ≡ NodeKind.Binary (BinaryOperator.Arithmetic operator)) question.filter.list.nodes place here in
        λ world o seen has. calculated_node question ranges ranged.are ranged.right ends ranged.moment types place within type computed operator second here left right left_is.is right_is.is is_second
        left_is.source right_is.source world o seen has

    pub calls_go : ((f g : Function) (asked : List ℕ) → IsNamed f asked → IsNamed g asked → f ≡ g) → CallsGo
    calls_go one_name question ranges function place operands ranged here arguments world o seen has =
        let come = call_comes question types ends ranged.moment world seen ranges ranged.are one_name place function operands here arguments o has in
        record {
          outcomes = come.all.os;
          have = come.all.have;
          plain = come.all.plain;
          values = map value_or_null come.all.os;
          are = unfaulted come.all.os;
          inner = come.inner;
          given = come.given;
          is = come.is;
        }

    pub lambdas_go : WhatFits → AreEntitiesKept → LambdasGo
    lambdas_go fits kept question ranges quantifier place ranged here world o seen has =
        lambda_comes question types ends ranged.moment (paths_by_laws question ranged.moment fits kept) quantifier place here world seen o has

    module _ (one : OneNumber) where
      pub comparisons_go : ComparisonsGo
      comparisons_go question ranges operator place second left right ranged here stops left_is right_is =
          binary_compares question ranges ranged.are ranged.right ends ranged.moment types one (BinaryOperator.Comparison operator) place second stops left right left_is right_is operator refl here

      pub flags_go : FlagsGo
      flags_go question ranges place second left right ranged here stops left_is right_is world o seen has =
          flags_come question types one ranges ranged.are ends ranged.moment place left right left_is.source world o seen second right_is stops here has

    module _ (decided : Decided) where
      pub lists_go : OneNumber → ListsGo
      lists_go one question ranges place left items ranged here left_is are world o seen has =
          list_comes question types ends ranged.moment one decided ranges ranged.are place left left_is.source left_is.is items world o seen here are has

      pub paths_go : PathsGo
      paths_go question ranges place base left ranged here stops left_is world o seen has =
          let is_second = found_there (λ (n : CheckedNode). n.stop ≡ base) (slice_get question.filter.list.nodes (place + 1)) left_is.is.node left_is.is.at stops in
          in_path_comes question types ends ranged.moment decided ranges ranged.are place base here left left_is.source left_is.is is_second world seen o has
