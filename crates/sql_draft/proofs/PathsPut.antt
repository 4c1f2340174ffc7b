-- The steps of a path, from its base up.
use Rattle.std.proofs.Common.{◌≡◌, ◌⊎◌, inl, inr, ◌<◌, ◌≤◌, ◌+◌, ◌++◌, ◌∷◌, [], ℕ, zero, suc, List, Result, Ok, Err, IfOk, Some, length, refl, sym, ap, subst, ◌∙◌, arith}
use Rattle.std.specs.Prelude.{IsSomeAnd, slice_get}
use Rattle.std.proofs.lemmas.Bool.{cases_lt}
use Rattle.edm_values.specs.Val.{Val}
use Rattle.csdl_schema.specs.SchemaModel.{SchemaModel}
use Rattle.edm_entities.specs.Row.{value_of}
use Rattle.odata_signatures.specs.Laws.{OneType}
use Rattle.odata_checked_filter.specs.Filter.{Filter}
use Rattle.odata_checked_filter.specs.declared.checked_node.CheckedNode.{CheckedNode}
use Rattle.odata_checked_filter.specs.declared.checked_node.NodeKind.{NodeKind}
use Rattle.filter_context.proofs.Parts.{found_there, there_found}
use Rattle.odata_filter_operations.specs.Outcome.{gives}
use Rattle.odata_ranges.specs.Owners.{IsOwnerAt, NamesSlotOf}
use Rattle.sql_meaning.specs.PlaceGives.{BaseGives, PathGives, SlotGives, StepsGive}
use Rattle.sql_tree.specs.declared.json_path.Base.{Base}
use Rattle.sql_tree.specs.declared.json_path.Path.{Path}
use Rattle.sql_tree.specs.declared.json_path.Step.{Step}
use Rattle.sql_draft.specs.declared.draft.Draft.{Draft}
use Rattle.std.specs.declared.alloc.AllocError.{AllocError}
use Rattle.sql_draft.specs.Growth.{GrowsBy, IsFront}
use Rattle.sql_draft.specs.Paths.{PutsMemberPath, PutsPath}
use Rattle.sql_draft.specs.private.Paths.{BelowHas, IsBottom, IsBottomOf, StepsLead}
use Rattle.sql_draft.specs.World.{IsWorldOf, OfPlace, Question, World}
use Rattle.sql_draft.proofs.Composing.{front_of_front, grown, no_more}
use Rattle.sql_draft.proofs.PathNodes.{it_there, member_step, property_step, variable_there_is, variable_within}

-- ---- one step more

one_more : (schema : SchemaModel) (steps : List Step) (step : Step) (b w v : Val) → StepsGive schema steps b w → SlotGives schema step.owner step.slot w v → StepsGive schema (steps ++ step ∷ []) b v
one_more schema [] step b w v is given = (v, subst (λ (x : Val). SlotGives schema step.owner step.slot x v) is given, refl)
one_more schema (first ∷ steps) step b w v is given = (is.0, is.1, one_more schema steps step is.0 w v is.2 given)

no_member : (slot : ℕ) (kind : NodeKind) → IsBottom kind → kind ≡ NodeKind.Member slot → ⊥
no_member slot kind bottom is = subst IsBottom is bottom

same_member : (a b : ℕ) → NodeKind.Member a ≡ NodeKind.Member b → a ≡ b
same_member a b is = cc

-- a name that stands on the way is a member, and the lowest one a property
module _ (filter : Filter) (place lowest at slot : ℕ) (found : CheckedNode) (is : IsBottomOf filter place lowest) (found_at : slice_get filter.list.nodes at ≡ Some found) (names : NamesSlotOf found.kind slot) where
  on_way : place ≤ at → at < lowest → found.kind ≡ NodeKind.Member slot
  on_way first below =
      let held = found_there (λ (n : CheckedNode). (k : ℕ) × (n.kind ≡ NodeKind.Member k)) (slice_get filter.list.nodes at) found found_at (is.members at first below) in
      elim names [
        | inl property ↦ (let apart : NodeKind.Property slot ≡ NodeKind.Member held.0 = sym property ∙ held.1 in absurd (cc))
        | inr member_is ↦ member_is
      ]

  at_bottom : at ≡ lowest → found.kind ≡ NodeKind.Property slot
  at_bottom same =
      let bottom = found_there (λ (n : CheckedNode). IsBottom n.kind) (slice_get filter.list.nodes at) found found_at
      (subst (λ (k : ℕ). IsSomeAnd (slice_get filter.list.nodes k) (λ n. IsBottom n.kind)) (sym same) is.bottom) in
      elim names [
        | inl property ↦ property
        | inr member_is ↦ absurd (no_member slot found.kind bottom member_is)
      ]

module _ (types : OneType) (question : Question) (levels : List ℕ) (base : Base) (steps : List Step) (place lowest at : ℕ) (step : Step) (found : CheckedNode) (is : IsBottomOf question.filter place lowest)
    (found_at : slice_get question.filter.list.nodes at ≡ Some found) (names : NamesSlotOf found.kind step.slot) (owned : IsOwnerAt question.filter at step.owner) (first : place ≤ at) (inside : at ≤ lowest) where
  -- the value of the node is one step from what it goes from
  from_below : (draft : Draft) (world : World) (v : Val) → IsWorldOf question draft world → OfPlace question.filter at world (gives v)
      → (w : Val) × BelowHas question.filter lowest (at + 1) world w × SlotGives world.asked.schema step.owner step.slot w v
  from_below draft world v of_world has = by (cases_lt at lowest)
    where
      moved : (w : Val) → SlotGives question.filter.schema step.owner step.slot w v → SlotGives world.asked.schema step.owner step.slot w v
      moved w given = subst (λ (s : SchemaModel). SlotGives s step.owner step.slot w v) (sym (of_world.schema_is ∙ of_world.seen.row_is.schema_is)) given

      by : (at < lowest) ⊎ (lowest ≤ at) → (w : Val) × BelowHas question.filter lowest (at + 1) world w × SlotGives world.asked.schema step.owner step.slot w v
      by (inl below) =
          let s =
          member_step question world of_world.seen at found found_at types step.slot step.owner (on_way question.filter place lowest at step.slot found is found_at names first below) owned v has in
          (s.0, inl (omega (arith, below), s.1), moved s.0 s.2)
      by (inr last) =
          let same : at ≡ lowest = omega (arith, last) in
          let s = property_step question world of_world.seen at found found_at step.slot step.owner (at_bottom question.filter place lowest at step.slot found is found_at names same) owned v has in
          (value_of world.row, inr (omega (arith, last), refl), moved (value_of world.row) s)

  below_is : (world : World) (v : Val) → BelowHas question.filter lowest at world v → OfPlace question.filter at world (gives v)
  below_is world v (inl there) = there.1
  below_is world v (inr past) = let beyond : lowest < at = past.0 in absurd (omega (arith, beyond))

  pub step_up : StepsLead question levels base steps lowest (at + 1) → StepsLead question levels base (steps ++ step ∷ []) lowest at
  step_up lead draft world v same of_world below =
      let s = from_below draft world v of_world (below_is world v below) in
      let before = lead draft world s.0 same of_world s.1 in
      (before.0, before.1, one_more world.asked.schema steps step before.0 s.0 v before.2 s.2)

-- ---- the base

module _ (question : Question) (levels : List ℕ) (lowest : ℕ) (found : CheckedNode) (found_at : slice_get question.filter.list.nodes lowest ≡ Some found) where
  of_lowest : (world : World) (v : Val) → BelowHas question.filter lowest lowest world v → OfPlace question.filter lowest world (gives v)
  of_lowest world v (inl there) = there.1
  of_lowest world v (inr past) = let beyond : lowest < lowest = past.0 in absurd (omega (arith, beyond))

  -- a range variable, by the level of its member
  pub variable_leads : (k level : ℕ) → found.kind ≡ NodeKind.Variable k → ((l : ℕ) → slice_get levels k ≡ Some l → level ≡ l) → StepsLead question levels (Base.Member level) [] lowest lowest
  variable_leads k level kind_is is_level draft world v same of_world below =
      let has = of_lowest world v below in
      let within = variable_within question world of_world.seen lowest found found_at k kind_is (gives v) has in
      let there = variable_there_is question world of_world.seen lowest found found_at k kind_is v has in
      let many : length draft.members.items ≡ length world.environment = of_world.as_many in
      let l = held draft.members.items k (omega (arith, within, many)) in
      let stands = of_world.members k l.0 there.0 l.1 there.1 in
      let at_level : IsSomeAnd (slice_get world.bound level) (λ b. b.value ≡ gives there.0.value) =
      subst (λ (n : ℕ). IsSomeAnd (slice_get world.bound n) (λ b. b.value ≡ gives there.0.value)) (sym (is_level l.0 (ap (λ (ls : List ℕ). slice_get ls k) (sym same) ∙ l.1))) stands in
      (v, subst (λ (w : Val). IsSomeAnd (slice_get world.bound level) (λ b. b.value ≡ gives w)) there.2 at_level, refl)
    where
      held : (xs : List ℕ) (n : ℕ) → n < length xs → (x : ℕ) × (slice_get xs n ≡ Some x)
      held [] n below = absurd (omega (arith, below))
      held (x ∷ xs) zero below = (x, refl)
      held (x ∷ xs) (suc n) below = let e : n < length xs = omega (arith, below) in held xs n e

  -- the document, before the step of `$it`
  pub it_leads : found.kind ≡ NodeKind.It → StepsLead question levels Base.Document [] lowest lowest
  it_leads kind_is draft world v same of_world below =
      (value_of world.row, sym of_world.entity_is, it_there question world of_world.seen lowest found found_at kind_is v (of_lowest world v below))

  -- the document, before the step of a property
  pub document_leads : StepsLead question levels Base.Document [] lowest (lowest + 1)
  document_leads draft world v same of_world (inl there) = let past : lowest + 1 ≤ lowest = there.0 in absurd (omega (arith, past))
  document_leads draft world v same of_world (inr past) = (value_of world.row, sym of_world.entity_is, past.1)

-- the column of the first step from the row
module _ (types : OneType) (question : Question) (levels : List ℕ) (place lowest first slot owner : ℕ) (found : CheckedNode) (is : IsBottomOf question.filter place lowest)
    (found_at : slice_get question.filter.list.nodes first ≡ Some found) where
  column_of : (draft : Draft) (world : World) (v : Val) → IsWorldOf question draft world → SlotGives question.filter.schema question.filter.filtered slot (value_of world.row) v
      → BaseGives world.asked world.bound (Base.Column slot) v
  column_of draft world v of_world given =
      subst (λ (e : Val). SlotGives world.asked.schema world.asked.row_type slot e v) (sym of_world.entity_is)
      (subst (λ (n : ℕ). SlotGives world.asked.schema n slot (value_of world.row) v) (sym (of_world.type_is ∙ of_world.seen.row_is.type_is))
      (subst (λ (s : SchemaModel). SlotGives s question.filter.filtered slot (value_of world.row) v) (sym (of_world.schema_is ∙ of_world.seen.row_is.schema_is)) given))

  of_first : first ≤ lowest → (world : World) (v : Val) → BelowHas question.filter lowest first world v → OfPlace question.filter first world (gives v)
  of_first inside world v (inl there) = there.1
  of_first inside world v (inr past) = let beyond : lowest < first = past.0 in absurd (omega (arith, beyond))

  pub property_leads : found.kind ≡ NodeKind.Property slot → IsOwnerAt question.filter first question.filter.filtered → first ≡ lowest → StepsLead question levels (Base.Column slot) [] lowest first
  property_leads kind_is owned at_lowest draft world v same of_world below =
      let has = of_first (omega (arith, at_lowest)) world v below in
      (v, column_of draft world v of_world (property_step question world of_world.seen first found found_at slot question.filter.filtered kind_is owned v has), refl)

  -- a member of `$it`, which is of the filtered type
  pub of_it_leads : (bottom : CheckedNode) → slice_get question.filter.list.nodes lowest ≡ Some bottom → bottom.kind ≡ NodeKind.It → found.kind ≡ NodeKind.Member slot
      → IsOwnerAt question.filter first question.filter.filtered → first + 1 ≡ lowest → StepsLead question levels (Base.Column slot) [] lowest first
  of_it_leads bottom bottom_at it_is kind_is owned next draft world v same of_world below =
      let has = of_first (omega (arith, next)) world v below in
      let s = member_step question world of_world.seen first found found_at types slot question.filter.filtered kind_is owned v has in
      let row = it_there question world of_world.seen lowest bottom bottom_at it_is s.0 (subst (λ (k : ℕ). OfPlace question.filter k world (gives s.0)) next s.1) in
      (v, column_of draft world v of_world (subst (λ (w : Val). SlotGives question.filter.schema question.filter.filtered slot w v) row s.2), refl)

-- ---- the path among those of the draft

added_at : (paths more : List Path) (path : Path) → slice_get ((paths ++ path ∷ []) ++ more) (length paths) ≡ Some path
added_at [] more path = refl
added_at (p ∷ paths) more path = added_at paths more path

-- the last path of a statement's front
pub path_added : (paths asked : List Path) (path : Path) → IsFront (paths ++ path ∷ []) asked → slice_get asked (length paths) ≡ Some path
path_added paths asked path front = ap (λ (ps : List Path). slice_get ps (length paths)) front.1 ∙ added_at paths front.0 path

count_added : (paths : List Path) (path : Path) → length paths < length (paths ++ path ∷ [])
count_added [] path = omega arith
count_added (p ∷ paths) path = let e : length paths < length (paths ++ path ∷ []) = count_added paths path in omega (arith, e)

module _ (old new : Draft) (path : Path) (grows : GrowsBy old new [] (path ∷ []) []) where
  within_paths : length old.tree.paths.items < length new.tree.paths.items
  within_paths = subst (λ (ps : List Path). length old.tree.paths.items < length ps) (sym grows.paths_are) (count_added old.tree.paths.items path)

  new_path : (asked : List Path) → IsFront new.tree.paths.items asked → slice_get asked (length old.tree.paths.items) ≡ Some path
  new_path asked front = path_added old.tree.paths.items asked path (subst (λ (ps : List Path). IsFront ps asked) grows.paths_are front)

  pub path_put : (question : Question) (lowest place : ℕ) → place ≤ lowest → StepsLead question old.members.items path.base path.steps.items lowest place → PutsPath question old new place (length old.tree.paths.items)
  path_put question lowest place first lead = record {
    grows = grown old new [] (path ∷ []) [] (no_more (length old.tree.parameters.items)) grows;
    leads = record {
      within = within_paths;
      says = λ later world v front members of_world has.
          there_found (λ (p : Path). PathGives world.asked world.bound p v) (slice_get world.asked.paths (length old.tree.paths.items)) path
          (new_path world.asked.paths (front_of_front new.tree.paths.items later.tree.paths.items world.asked.paths front of_world.paths))
          (lead later world v (members ∙ grows.members) of_world (inl (first, has)));
    };
  }

  pub member_path_put : (level : ℕ) → path.base ≡ Base.Member level → path.steps.items ≡ [] → PutsMemberPath old new level (length old.tree.paths.items)
  member_path_put level base_is no_steps = record {
    grows = grown old new [] (path ∷ []) [] (no_more (length old.tree.parameters.items)) grows;
    within = within_paths;
    says = λ asked bound v front at.
        there_found (λ (p : Path). PathGives asked bound p v) (slice_get asked.paths (length old.tree.paths.items)) path (new_path asked.paths front) (
          v,
          subst (λ (b : Base). BaseGives asked bound b v) (sym base_is) at,
          subst (λ (steps : List Step). StepsGive asked.schema steps v v) (sym no_steps) refl,
        );
  }

-- ---- as functions answer it

ok_goes : {A E : Type 0} (r : Result A E) (P Q : A → Type 0) → ((x : A) → P x → Q x) → IfOk r P → IfOk r Q
ok_goes (Ok x) P Q goes is = goes x is
ok_goes (Err e) P Q goes is = is

-- a path that is added
abbrev pub IsAdded : Draft → Draft → Path → ℕ → Type 0
IsAdded old new path number = (number ≡ length old.tree.paths.items) × GrowsBy old new [] (path ∷ []) []

pub member_path_ok : (old new : Draft) (path : Path) (level : ℕ) (r : Result ℕ AllocError) → path.base ≡ Base.Member level → path.steps.items ≡ [] → IfOk r (IsAdded old new path)
    → IfOk r (PutsMemberPath old new level)
member_path_ok old new path level r base_is no_steps added =
    ok_goes r (IsAdded old new path) (PutsMemberPath old new level) (λ number is. subst (PutsMemberPath old new level) (sym is.0) (member_path_put old new path is.1 level base_is no_steps)) added

pub path_ok : (question : Question) (old new : Draft) (path : Path) (lowest place : ℕ) (r : Result ℕ AllocError) → place ≤ lowest → StepsLead question old.members.items path.base path.steps.items lowest place
    → IfOk r (IsAdded old new path) → IfOk r (PutsPath question old new place)
path_ok question old new path lowest place r first lead added =
    ok_goes r (IsAdded old new path) (PutsPath question old new place) (λ number is. subst (PutsPath question old new place) (sym is.0) (path_put old new path is.1 question lowest place first lead)) added
