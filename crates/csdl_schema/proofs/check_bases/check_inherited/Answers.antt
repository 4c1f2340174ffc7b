use Rattle.std.proofs.Common.{◌≡◌, ◌<◌, ◌≤◌, ◌+◌, ◌∙◌, ◌∷◌, [], List, ℕ, Some, None, Bor, length, option_map, sym, ap, subst, string_bytes, arith}
use Rattle.std.proofs.lemmas.Option.{slice_get-map}
use Rattle.csdl_declarations.specs.Fault.{property_twice}
use Rattle.csdl_declarations.specs.FaultView.{fault_of}
use Rattle.csdl_declarations.specs.private.FaultView.{ReportsFault}
use Rattle.csdl_schema.specs.BaseFaults.{property_limit, twice_faults}
use Rattle.csdl_schema.specs.private.Placed.{count_at, own_at, own_of}
use Rattle.csdl_schema.specs.private.PlacedView.{placed_of, placed_view}
use Rattle.csdl_schema.proofs.Walks.{few_enough, first_of_more, is_below, none_twice, not_below, reports_first, too_many, total, total_is, twice, twice_reported}
use Rattle.csdl_schema.proofs.check_bases.check_inherited.Goals as goal

pub returns-in-Some : goal.returns-in-Some
returns-in-Some c =
    let ps = placed_of c.args.types.now in
    let n = c.args.index in
    let bases = c.args.bases.now in
    let name = string_bytes c.args.found.now.name in
    let reported = option_map (λ (s : Bor (List ℕ)). s.now) c.first_twice.result in
    let is : reported ≡ twice ps name n bases = twice_reported ps _ (n ∷ bases) reported c.requires.firsts c.first_twice.ensures in
    let some : reported ≡ Some c.in-Some.twice.now = ap (option_map (λ (s : Bor (List ℕ)). s.now)) c.in-Some.is in
    let reports : ReportsFault c.property_twice.result (property_twice name c.in-Some.twice.now) =
    subst (λ o. ReportsFault c.property_twice.result (property_twice o c.in-Some.twice.now)) c.as_str.ensures.value c.property_twice.ensures in
    first_of_more (fault_of c.property_twice.result) (twice_faults name (twice ps name n bases)) _
    (reports_first (fault_of c.property_twice.result) (property_twice name c.in-Some.twice.now) (twice_faults name (twice ps name n bases)) [] reports (ap (twice_faults name) (sym is ∙ some)))

pub returns-then-own_count-inherited : goal.returns-then-own_count-inherited
returns-then-own_count-inherited c =
    let ps = placed_of c.args.types.now in
    let n = c.args.index in
    let bases = c.args.bases.now in
    let name = string_bytes c.args.found.now.name in
    let reported = option_map (λ (s : Bor (List ℕ)). s.now) c.first_twice.result in
    let is : reported ≡ twice ps name n bases = twice_reported ps _ (n ∷ bases) reported c.requires.firsts c.first_twice.ensures in
    let none : reported ≡ None = ap (option_map (λ (s : Bor (List ℕ)). s.now)) c.in-None.is in
    let own : length (own_at ps n) ≡ c.own_count.result = ap (λ o. length (own_of o)) (slice_get-map placed_view c.args.types.now n ∙ ap (option_map placed_view) c.requires.found) ∙ sym c.own_count.ensures in
    let all : total ps name n bases ≡ length (own_at ps n) + count_at ps bases = total_is ps name n bases in
    let rest : c.in-Some-count_properties.inherited ≡ count_at ps bases = c.in-Some-count_properties.ensures.0 in
    let many : property_limit < total ps name n bases = omega (arith, own, all, rest, c.in-Some-count_properties.ensures.1, c.if-own_count-inherited.true) in
    too_many ps name n bases (is_below property_limit (total ps name n bases) many) (none_twice ps name n bases reported none is)

pub returns-else-own_count-inherited : goal.returns-else-own_count-inherited
returns-else-own_count-inherited c =
    let ps = placed_of c.args.types.now in
    let n = c.args.index in
    let bases = c.args.bases.now in
    let name = string_bytes c.args.found.now.name in
    let reported = option_map (λ (s : Bor (List ℕ)). s.now) c.first_twice.result in
    let is : reported ≡ twice ps name n bases = twice_reported ps _ (n ∷ bases) reported c.requires.firsts c.first_twice.ensures in
    let none : reported ≡ None = ap (option_map (λ (s : Bor (List ℕ)). s.now)) c.in-None.is in
    let own : length (own_at ps n) ≡ c.own_count.result = ap (λ o. length (own_of o)) (slice_get-map placed_view c.args.types.now n ∙ ap (option_map placed_view) c.requires.found) ∙ sym c.own_count.ensures in
    let all : total ps name n bases ≡ length (own_at ps n) + count_at ps bases = total_is ps name n bases in
    let rest : c.in-Some-count_properties.inherited ≡ count_at ps bases = c.in-Some-count_properties.ensures.0 in
    let few : total ps name n bases ≤ property_limit = omega (arith, own, all, rest, c.in-Some-count_properties.ensures.1, c.if-own_count-inherited.false) in
    (few_enough ps name n bases (not_below property_limit (total ps name n bases) few) (none_twice ps name n bases reported none is), rest)

pub returns-in-None-count_properties : goal.returns-in-None-count_properties
returns-in-None-count_properties c =
    let ps = placed_of c.args.types.now in
    let n = c.args.index in
    let bases = c.args.bases.now in
    let name = string_bytes c.args.found.now.name in
    let reported = option_map (λ (s : Bor (List ℕ)). s.now) c.first_twice.result in
    let is : reported ≡ twice ps name n bases = twice_reported ps _ (n ∷ bases) reported c.requires.firsts c.first_twice.ensures in
    let none : reported ≡ None = ap (option_map (λ (s : Bor (List ℕ)). s.now)) c.in-None.is in
    let all : total ps name n bases ≡ length (own_at ps n) + count_at ps bases = total_is ps name n bases in
    let over : property_limit < count_at ps bases = c.in-None-count_properties.ensures in
    let many : property_limit < total ps name n bases = omega (arith, all, over) in
    too_many ps name n bases (is_below property_limit (total ps name n bases) many) (none_twice ps name n bases reported none is)
