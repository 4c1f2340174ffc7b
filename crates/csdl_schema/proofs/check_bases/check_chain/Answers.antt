use Rattle.std.proofs.Common.{Err, ◌≡◌, ◌∙◌, ◌++◌, ◌||◌, not, is_some, length, sym, ap, subst}
use Rattle.std.proofs.lemmas.Result.{err_from_is_err_and}
use Rattle.csdl_declarations.specs.Fault.{unless, unknown_base}
use Rattle.csdl_declarations.specs.FaultView.{IsFirstOf, fault_of}
use Rattle.csdl_schema.specs.private.Placed.{all_places, length_faults, places_within}
use Rattle.csdl_schema.specs.private.PlacedView.{placed_of, placed_view}
use Rattle.csdl_schema.proofs.Placing.{length-map}
use Rattle.csdl_schema.proofs.Walks.{behind_none, first_of_more, unless_first, unless_none}
use Rattle.csdl_schema.proofs.check_bases.check_chain.Goals as goal

pub returns-then-not-is_known : goal.returns-then-not-is_known
returns-then-not-is_known c =
    first_of_more (fault_of c.unknown_base.result) (unless (not c.args.base.is_named || is_some c.args.base.index) (unknown_base c.args.name.now)) _
    (unless_first (not c.args.base.is_named || is_some c.args.base.index) (unknown_base c.args.name.now) (fault_of c.unknown_base.result) (sym c.is_known.ensures ∙ c.if-not-is_known.true) c.unknown_base.ensures)

pub returns-in_err-check_length : goal.returns-in_err-check_length
returns-in_err-check_length c =
    let ps = placed_of c.args.types.now in
    let n = c.args.index in
    let name = c.args.name.now in
    let known = not c.args.base.is_named || is_some c.args.base.index in
    let many : length ps ≡ length c.args.types.now = length-map placed_view c.args.types.now in
    let lengths : length c.deref.result.now ≡ length (all_places ps n) = ap length (c.deref.ensures.value ∙ c.in_ok-places.ensures.places ∙ ap (λ k. places_within k ps n) (sym many)) in
    let same : length_faults name (length c.deref.result.now) (length c.args.types.now) ≡ length_faults name (length (all_places ps n)) (length ps) = λ j. length_faults name (lengths j) (sym many j) in
    let exit = err_from_is_err_and c.from_residual-in_err-check_length.result c.from_residual-in_err-check_length.ensures.1 in
    rw (exit.1 ∙ ap Err exit.2) (behind_none (fault_of c.in_err-check_length.field-0.0) (unless known (unknown_base name)) (length_faults name (length (all_places ps n)) (length ps)) (unless_none known (unknown_base name) (sym c.is_known.ensures ∙ c.if-not-is_known.false))
    (subst (λ fs. IsFirstOf fs (fault_of c.in_err-check_length.field-0.0)) same c.in_err-check_length.ensures.reported))

pub returns : goal.returns
returns c =
    let ps = placed_of c.args.types.now in
    let n = c.args.index in
    let name = c.args.name.now in
    let known = not c.args.base.is_named || is_some c.args.base.index in
    let many : length ps ≡ length c.args.types.now = length-map placed_view c.args.types.now in
    let lengths : length c.deref.result.now ≡ length (all_places ps n) = ap length (c.deref.ensures.value ∙ c.in_ok-places.ensures.places ∙ ap (λ k. places_within k ps n) (sym many)) in
    let same : length_faults name (length c.deref.result.now) (length c.args.types.now) ≡ length_faults name (length (all_places ps n)) (length ps) = λ j. length_faults name (lengths j) (sym many j) in
    let is_known = unless_none known (unknown_base name) (sym c.is_known.ensures ∙ c.if-not-is_known.false) in
    let short = sym same ∙ c.in_ok-check_length.ensures.reported.0 in
    ((λ j. is_known j ++ short j), c.in_ok-places.ensures.places ∙ ap (λ k. places_within k ps n) (sym many))
