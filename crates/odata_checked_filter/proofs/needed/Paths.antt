-- Where a path of steps ends, by what stands at its end.
use Rattle.std.proofs.Common.{◌≡◌, ℕ, ◌+◌, List, [], ◌∷◌, ◌++◌, ◌<◌, Some, Option, IfSome, IsSome, length, slice_get, unwrap_or, refl, sym, subst, arith, Bool, true, false, not, is_some, ap, ◌∙◌}
use Rattle.std.proofs.lemmas.Bool.{false≢true}
use Rattle.odata_syntax.specs.Tree.{Tree, node}
use Rattle.csdl_schema.specs.ExpansionView.{LeadsTo, StepModel}
use Rattle.csdl_schema.specs.ExprType.{single, structured}
use Rattle.csdl_schema.specs.PathSet.{PropertyPath}
use Rattle.csdl_schema.specs.PropertyView.{IsReadAs}
use Rattle.csdl_schema.specs.SchemaModel.{SchemaModel, properties_at, slot_named, slots_of, type_name_at}
use Rattle.odata_signatures.specs.Laws.{OneType}
use Rattle.odata_signatures.specs.NeededPaths.{NameNeeds, Navigates, StepNeeds, VariablePaths, path_of}
use Rattle.odata_signatures.specs.Typed.{Scope, Typed}
use Rattle.odata_signatures.specs.TypeView.{expr_type}
use Rattle.odata_signatures.specs.declared.edm_type.EdmType.{EdmType}
use Rattle.odata_signatures.specs.declared.edm_type.ValueType.{ValueType}
use Rattle.odata_checked_filter.specs.FlatTree.{FlatTree}
use Rattle.odata_checked_filter.specs.private.Layout.{Lies}
use Rattle.odata_checked_filter.specs.declared.checked_node.CheckedNode.{CheckedNode}
use Rattle.odata_checked_filter.specs.declared.checked_node.NodeKind.{NodeKind}
use Rattle.odata_checked_filter.specs.declared.needed_paths.PathEnd.{PathEnd}
use Rattle.odata_checked_filter.specs.private.NeededPaths.{IsPathEnd, IsPutFrom, IsTargetAt, IsWithoutTarget, LeadThere, NeedsOnWay, Puts, node_of_level, steps_of}
use Rattle.odata_checked_filter.proofs.flat.Alone.{same_owner}
use Rattle.odata_checked_filter.proofs.flat.Places.{same_found}
use Rattle.odata_checked_filter.proofs.needed.Kinds.{IsNoWay, IsPropertyThere, IsStepThere, IsVariableThere, owner_type, property_there, typed_there, variable_needs_none, way_none}
use Rattle.odata_checked_filter.proofs.needed.Levels.{no_path, no_variable, variable_leads}
use Rattle.odata_checked_filter.proofs.needed.Sets.{puts_as, puts_both, puts_nothing}
use Rattle.odata_checked_filter.proofs.needed.Steps.{finds_target, navigates, slot_below}

-- ---- the owner of a step

-- one structured type, of this name, with a property at the slot
pub record IsOwner (schema : SchemaModel) (slot : ℕ) (owner : List ℕ) (type : EdmType) : Type 0 where
  pub id : ℕ
  pub type_is : type ≡ EdmType.Single (ValueType.Structured id)
  pub slot_in : slot < length (properties_at schema id)
  pub owner_is : owner ≡ type_name_at schema id

module _ (types : OneType) (schema : SchemaModel) (n : ℕ) (scope : Scope) (list : FlatTree) where
  -- the type of the node after that of a step
  pub owner_there : (place stop slot : ℕ) (tree : Tree) (found : CheckedNode) (there : IsStepThere schema n scope list place stop slot tree) → slice_get list.nodes (place + 1) ≡ Some found
      → IsOwner schema slot there.owner found.edm_type
  owner_there place stop slot tree found there at =
      let slots = slots_of schema in
      let root = type_name_at schema n in
      let below = typed_there schema n scope list (place + 1) stop there.base there.base_stands in
      let is : below.0 ≡ found = same_found (slice_get list.nodes (place + 1)) below.0 found below.1.0 at in
      let typed : Typed slots root scope there.base (expr_type schema found.edm_type) =
      subst (λ (f : CheckedNode). Typed slots root scope there.base (expr_type schema f.edm_type)) is below.1.1 in
      let same = types slots root scope there.base (expr_type schema found.edm_type) (single (structured there.owner)) typed there.base_typed in
      let owner = owner_type schema found.edm_type there.owner same in
      record {
        id = owner.0;
        type_is = owner.1.0;
        slot_in = slot_below (properties_at schema owner.0) there.asked slot (subst (λ (o : List ℕ). slot_named (slots.properties o) there.asked ≡ Some slot) owner.1.1 there.named);
        owner_is = owner.1.1;
      }

-- ---- ends

module _ (schema : SchemaModel) (n : ℕ) (scope : Scope) (list : FlatTree) (paths : VariablePaths) (old : List StepModel) where
  abbrev End : List StepModel → ℕ → Tree → PathEnd → Type 0
  End new place tree end = IsPathEnd (slots_of schema) (type_name_at schema n) scope paths old new place tree end

  -- a step more
  pub step_end : (types : OneType) (mid new : List StepModel) (place stop slot id after : ℕ) (tree : Tree) (before : PathEnd) (target : Option ℕ)
      → (there : IsStepThere schema n scope list place stop slot tree) → there.owner ≡ type_name_at schema id
      → IsTargetAt schema id slot target → End mid (place + 1) there.base before
      → LeadsTo new (path_of scope paths there.base ++ there.asked ∷ []) after
      → Puts mid new (λ put. IsSome target × (put ≡ path_of scope paths there.base ++ there.asked ∷ []))
      → End new place tree (record { node = after; base = before.base })
  step_end types mid new place stop slot id after tree before target there owner_same at reached leads puts =
      let slots = slots_of schema in
      let root = type_name_at schema n in
      let way = path_of scope paths there.base in
      let Step : PropertyPath → Type 0 = StepNeeds slots (Typed slots root scope there.base) way there.asked in
      let here : IfSome (slice_get (slots.properties there.owner) slot) (λ declaration. IsReadAs schema declaration at.property) =
      subst (λ (o : List ℕ). IfSome (slice_get (slots.properties o) slot) (λ declaration. IsReadAs schema declaration at.property)) (sym owner_same) at.read in
      let forth : (put : PropertyPath) → IsSome target × (put ≡ way ++ there.asked ∷ []) → Step put = λ put both. record {
        owner = there.owner;
        base_typed = there.base_typed;
        navigates = navigates schema (slots.properties there.owner) there.asked slot at.property there.named here (subst IsSome at.target_is both.0);
        path_is = both.1;
      } in
      let back : (put : PropertyPath) → Step put → IsSome target × (put ≡ way ++ there.asked ∷ []) = λ put need.
      let same : need.owner ≡ there.owner = same_owner need.owner there.owner
      (types slots root scope there.base (single (structured need.owner)) (single (structured there.owner)) need.base_typed there.base_typed) in (
        subst IsSome (sym at.target_is)
            (finds_target schema (slots.properties there.owner) there.asked slot at.property there.named here
            (subst (λ (o : List ℕ). Navigates (slots.properties o) there.asked) same need.navigates)),
        need.path_is,
      ) in
      let begun = reached.begins in
      subst (λ (t : Tree). End new place t (record { node = after; base = before.base })) (sym there.is) (record {
        puts = puts_both old mid new (NeedsOnWay slots root scope paths there.base) Step reached.puts
            (puts_as mid new (λ put. IsSome target × (put ≡ way ++ there.asked ∷ [])) Step forth back puts);
        leads = leads;
        begins = omega (arith, begun);
      })

  -- a property of the filtered type
  pub property_end : (new : List StepModel) (place slot after : ℕ) (tree : Tree) (target : Option ℕ) → (there : IsPropertyThere schema n scope list place slot tree)
      → IsTargetAt schema n slot target → LeadsTo new (there.asked ∷ []) after → Puts old new (λ put. IsSome target × (put ≡ there.asked ∷ []))
      → End new place tree (record { node = after; base = place })
  property_end new place slot after tree target there at leads puts =
      subst (λ (t : Tree). End new place t (record { node = after; base = place })) (sym there.is) (record {
        puts = puts_as old new (λ put. IsSome target × (put ≡ there.asked ∷ [])) (NameNeeds (slots_of schema) (type_name_at schema n) scope there.asked)
            (λ put both. record {
              free = no_variable scope there.asked there.unbound;
              navigates = navigates schema (properties_at schema n) there.asked slot at.property there.named at.read (subst IsSome at.target_is both.0);
              path_is = both.1;
            })
            (λ put need. (subst IsSome (sym at.target_is) (finds_target schema (properties_at schema n) there.asked slot at.property there.named at.read need.navigates), need.path_is))
            puts;
        leads = subst (λ (o : Option PropertyPath). LeadsTo new (unwrap_or o (there.asked ∷ [])) after) (sym (no_path scope paths there.asked there.unbound)) leads;
        begins = omega arith;
      })

  -- a variable
  pub variable_end : (place level after : ℕ) (tree : Tree) (nodes : List ℕ) → IsVariableThere schema n scope list place level tree → LeadThere old scope paths nodes → node_of_level nodes level ≡ Some after
      → End old place tree (record { node = after; base = place })
  variable_end place level after tree nodes there lead at =
      subst (λ (t : Tree). End old place t (record { node = after; base = place })) (sym there.is) (record {
        puts = puts_as old old (λ path. ⊥) (NameNeeds (slots_of schema) (type_name_at schema n) scope there.asked) (λ path none. absurd none)
            (λ path need. variable_needs_none schema n scope list paths place level tree path there
            (subst (λ (t : Tree). NeedsOnWay (slots_of schema) (type_name_at schema n) scope paths t path) (sym there.is) need))
            (puts_nothing old);
        leads = variable_leads old scope paths nodes there.asked level after (there.asked ∷ []) lead there.bound at;
        begins = omega arith;
      })

  -- anything else: it has the empty path
  pub other_end : (place : ℕ) (tree : Tree) → IsNoWay tree → End old place tree (record { node = 0; base = place })
  other_end place tree plain =
      let none = way_none schema n scope list paths tree plain in
      let count : steps_of tree ≡ 0 = none.0 in
      record {
        puts = puts_as old old (λ path. ⊥) (NeedsOnWay (slots_of schema) (type_name_at schema n) scope paths tree) (λ path nothing. absurd nothing) (λ path need. none.1.1 path need) (puts_nothing old);
        leads = subst (λ (path : PropertyPath). LeadsTo old path 0) (sym none.1.0) refl;
        begins = omega (arith, count);
      }

  -- a property alone without a target needs nothing
  pub without_target : (place stop : ℕ) (tree : Tree) (found : CheckedNode) (answer : Bool) → Lies schema n scope list place stop tree → slice_get list.nodes place ≡ Some found
      → IsWithoutTarget schema n found.kind answer → answer ≡ true → IsPutFrom (slots_of schema) (type_name_at schema n) scope paths old old place tree place
  without_target place stop tree found answer stands at plain is = by found.kind refl plain
    where
      by : (kind : NodeKind) → found.kind ≡ kind → IsWithoutTarget schema n kind answer
          → IsPutFrom (slots_of schema) (type_name_at schema n) scope paths old old place tree place
      by (NodeKind.Property slot) kind_is plain =
          let there = property_there schema n scope list place stop slot tree found stands at kind_is in
          let none : is_some plain.0.target ≡ false = plain.2 ∙ ap not is in
          subst (λ (t : Tree). IsPutFrom (slots_of schema) (type_name_at schema n) scope paths old old place t place) (sym there.is) (record {
            puts = puts_as old old (λ path. ⊥) (NameNeeds (slots_of schema) (type_name_at schema n) scope there.asked) (λ path nothing. absurd nothing)
                (λ path need. false≢true (sym none ∙ finds_target schema (properties_at schema n) there.asked slot plain.0 there.named plain.1 need.navigates))
                (puts_nothing old);
            begins = omega arith;
          })
      by _ kind_is plain = absurd (false≢true (sym plain ∙ is))
