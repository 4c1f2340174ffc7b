use Rattle.std.proofs.Common.{Err, ◌≡◌, ◌∙◌, length, map, sym, ap, subst, arith}
use Rattle.std.proofs.lemmas.Result.{err_from_is_err_and}
use Rattle.indexmap.specs.IndexMap.{get_by_text}
use Rattle.csdl_declarations.specs.DeclaredTypeView.{types_view}
use Rattle.csdl_declarations.specs.FaultView.{fault_of}
use Rattle.csdl_schema.specs.private.Placed.{IsIndexOf, chains_from, faults_from, found_base, kinds_from, types_with}
use Rattle.csdl_schema.specs.private.PlacedView.{placed_of, placed_view}
use Rattle.csdl_schema.specs.BaseFaults.{all_base_faults}
use Rattle.csdl_schema.proofs.Chains.{first_fault, first_kept, none_first}
use Rattle.csdl_schema.proofs.Joined.{as_many, chained, faults_are, found_by_name, model_is}
use Rattle.csdl_schema.proofs.Placing.{length-map}
use Rattle.csdl_schema.proofs.read.join.Goals as goal

pub check_types-requires : goal.check_types-requires
check_types-requires c =
    let ds = types_view c.args.declared.items in
    let find = get_by_text c.in_ok-index_by_name.index_by_name in
    let indexed : IsIndexOf ds find = subst (λ ts. IsIndexOf (types_view ts) find) c.deref.ensures.value c.in_ok-index_by_name.ensures.indexed in
    let kinds : c.in_ok-kinds.kinds.items ≡ kinds_from 0 ds = c.in_ok-kinds.ensures.kinds ∙ ap (λ ts. kinds_from 0 (types_view ts)) c.deref-2.ensures.value in
    let bases : c.in_ok-bases.bases.items ≡ map (λ t. found_base ds find t.body) ds =
    c.in_ok-bases.ensures.bases ∙ ap (λ ts. map (λ t. found_base (types_view ts) find t.body) (types_view ts)) c.deref-3.ensures.value in
    let types : placed_of c.in_ok-types.types.items ≡ types_with c.in_ok-kinds.kinds.items find c.in_ok-bases.bases.items ds =
    c.in_ok-types.ensures.placed ∙ (λ j. types_with (c.deref-4.ensures.value j) find (c.deref-5.ensures.value j) ds) in
    let many = as_many ds find indexed _ _ _ kinds bases types in
    let placed : length (placed_of c.in_ok-types.types.items) ≡ length c.in_ok-types.types.items = length-map placed_view c.in_ok-types.types.items in
    let all : length c.deref-6.result.now ≡ length c.in_ok-types.types.items = ap length c.deref-6.ensures.value in
    let each : length c.deref-7.result.now ≡ length c.in_ok-bases.bases.items = ap length c.deref-7.ensures.value in
    omega (arith, many, placed, all, each)

pub returns-in_err-chains : goal.returns-in_err-chains
returns-in_err-chains c =
    let ds = types_view c.args.declared.items in
    let find = get_by_text c.in_ok-index_by_name.index_by_name in
    let indexed : IsIndexOf ds find = subst (λ ts. IsIndexOf (types_view ts) find) c.deref.ensures.value c.in_ok-index_by_name.ensures.indexed in
    let kinds : c.in_ok-kinds.kinds.items ≡ kinds_from 0 ds = c.in_ok-kinds.ensures.kinds ∙ ap (λ ts. kinds_from 0 (types_view ts)) c.deref-2.ensures.value in
    let bases : c.in_ok-bases.bases.items ≡ map (λ t. found_base ds find t.body) ds =
    c.in_ok-bases.ensures.bases ∙ ap (λ ts. map (λ t. found_base (types_view ts) find t.body) (types_view ts)) c.deref-3.ensures.value in
    let types : placed_of c.in_ok-types.types.items ≡ types_with c.in_ok-kinds.kinds.items find c.in_ok-bases.bases.items ds =
    c.in_ok-types.ensures.placed ∙ (λ j. types_with (c.deref-4.ensures.value j) find (c.deref-5.ensures.value j) ds) in
    let lengths : faults_from (placed_of c.deref-6.result.now) 0 c.deref-7.result.now (placed_of c.deref-6.result.now) ≡ faults_from (placed_of c.in_ok-types.types.items) 0 c.in_ok-bases.bases.items (placed_of c.in_ok-types.types.items) =
    λ j. faults_from (placed_of (c.deref-6.ensures.value j)) 0 (c.deref-7.ensures.value j) (placed_of (c.deref-6.ensures.value j)) in
    let exit = err_from_is_err_and c.from_residual-in_err-chains.result c.from_residual-in_err-chains.ensures.1 in
    rw (exit.1 ∙ ap Err exit.2) (first_kept (fault_of c.in_err-chains.field-0.0) (faults_from (placed_of c.deref-6.result.now) 0 c.deref-7.result.now (placed_of c.deref-6.result.now)) (all_base_faults ds)
    (ap first_fault lengths ∙ faults_are ds find indexed _ _ _ kinds bases types) c.in_err-chains.ensures)

pub invariant_of-result : goal.invariant_of-result
invariant_of-result c =
    let ds = types_view c.args.declared.items in
    let find = get_by_text c.in_ok-index_by_name.index_by_name in
    let indexed : IsIndexOf ds find = subst (λ ts. IsIndexOf (types_view ts) find) c.deref.ensures.value c.in_ok-index_by_name.ensures.indexed in
    let kinds : c.in_ok-kinds.kinds.items ≡ kinds_from 0 ds = c.in_ok-kinds.ensures.kinds ∙ ap (λ ts. kinds_from 0 (types_view ts)) c.deref-2.ensures.value in
    let bases : c.in_ok-bases.bases.items ≡ map (λ t. found_base ds find t.body) ds =
    c.in_ok-bases.ensures.bases ∙ ap (λ ts. map (λ t. found_base (types_view ts) find t.body) (types_view ts)) c.deref-3.ensures.value in
    let types : placed_of c.in_ok-types.types.items ≡ types_with c.in_ok-kinds.kinds.items find c.in_ok-bases.bases.items ds =
    c.in_ok-types.ensures.placed ∙ (λ j. types_with (c.deref-4.ensures.value j) find (c.deref-5.ensures.value j) ds) in
    let lengths : faults_from (placed_of c.deref-6.result.now) 0 c.deref-7.result.now (placed_of c.deref-6.result.now) ≡ faults_from (placed_of c.in_ok-types.types.items) 0 c.in_ok-bases.bases.items (placed_of c.in_ok-types.types.items) =
    λ j. faults_from (placed_of (c.deref-6.ensures.value j)) 0 (c.deref-7.ensures.value j) (placed_of (c.deref-6.ensures.value j)) in
    let chains : c.in_ok-chains.chains.items ≡ chains_from (placed_of c.in_ok-types.types.items) 0 (placed_of c.in_ok-types.types.items) =
    c.in_ok-chains.ensures.1 ∙ ap (λ ts. chains_from (placed_of ts) 0 (placed_of ts)) c.deref-6.ensures.value in
    record {
      indexed = found_by_name ds find indexed _ _ _ kinds bases types;
      chains = chained ds find indexed _ _ _ kinds bases types c.in_ok-chains.chains.items chains c.requires (sym lengths ∙ c.in_ok-chains.ensures.0);
    }

pub returns : goal.returns
returns c =
    let ds = types_view c.args.declared.items in
    let find = get_by_text c.in_ok-index_by_name.index_by_name in
    let indexed : IsIndexOf ds find = subst (λ ts. IsIndexOf (types_view ts) find) c.deref.ensures.value c.in_ok-index_by_name.ensures.indexed in
    let kinds : c.in_ok-kinds.kinds.items ≡ kinds_from 0 ds = c.in_ok-kinds.ensures.kinds ∙ ap (λ ts. kinds_from 0 (types_view ts)) c.deref-2.ensures.value in
    let bases : c.in_ok-bases.bases.items ≡ map (λ t. found_base ds find t.body) ds =
    c.in_ok-bases.ensures.bases ∙ ap (λ ts. map (λ t. found_base (types_view ts) find t.body) (types_view ts)) c.deref-3.ensures.value in
    let types : placed_of c.in_ok-types.types.items ≡ types_with c.in_ok-kinds.kinds.items find c.in_ok-bases.bases.items ds =
    c.in_ok-types.ensures.placed ∙ (λ j. types_with (c.deref-4.ensures.value j) find (c.deref-5.ensures.value j) ds) in
    let lengths : faults_from (placed_of c.deref-6.result.now) 0 c.deref-7.result.now (placed_of c.deref-6.result.now) ≡ faults_from (placed_of c.in_ok-types.types.items) 0 c.in_ok-bases.bases.items (placed_of c.in_ok-types.types.items) =
    λ j. faults_from (placed_of (c.deref-6.ensures.value j)) 0 (c.deref-7.ensures.value j) (placed_of (c.deref-6.ensures.value j)) in (
      none_first (faults_from (placed_of c.deref-6.result.now) 0 c.deref-7.result.now (placed_of c.deref-6.result.now)) (all_base_faults ds)
          (ap first_fault lengths ∙ faults_are ds find indexed _ _ _ kinds bases types) c.in_ok-chains.ensures.0,
      model_is ds find indexed _ _ _ kinds bases types,
    )
