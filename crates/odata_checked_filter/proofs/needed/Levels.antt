-- The nodes of range variables, by their levels.
use Rattle.std.proofs.Common.{◌≡◌, ℕ, Bor, rules, suc, ◌<◌, List, [], ◌∷◌, Bool, true, false, cond, Some, None, length, nat_eq, unwrap_or, refl, sym, ap, ◌∙◌, subst, arith, eqb-true, eq-eqb, ne_eqb}
use Rattle.std.specs.Cmp.Lexicographic.{pointwise}
use Rattle.csdl_schema.specs.ExpansionView.{LeadsTo, StepModel}
use Rattle.csdl_schema.specs.PathSet.{PropertyPath}
use Rattle.odata_signatures.specs.NeededPaths.{VariablePaths, variable_path}
use Rattle.odata_signatures.specs.Typed.{Scope, variable_type}
use Rattle.odata_checked_filter.specs.Levels.{level_named}
use Rattle.odata_checked_filter.specs.Stands.{variable_names}
use Rattle.odata_checked_filter.specs.declared.needed_paths.VariableNodes.{VariableNodes, Bound, Empty, the_lemmas}
use Rattle.odata_checked_filter.specs.private.NeededPaths.{LeadThere, node_of_level, nodes_in}

pub level_below : (nodes : List ℕ) (level node : ℕ) → node_of_level nodes level ≡ Some node → level < length nodes
level_below [] level node is = absurd (cc)
level_below (n ∷ outer) level node is = by (nat_eq (length outer) level) refl (level_below outer level node) is
  where
    by : (b : Bool) → nat_eq (length outer) level ≡ b → (node_of_level outer level ≡ Some node → level < length outer) → cond b (Some n) (node_of_level outer level) ≡ Some node
        → level < suc (length outer)
    by true same deeper at = let e : length outer ≡ level = eqb-true (length outer) level same in omega arith
    by false other deeper at = let less : level < length outer = deeper at in omega arith

-- the level of a further variable
pub level_outer : (n : ℕ) (outer : List ℕ) (level node : ℕ) → node_of_level outer level ≡ Some node → node_of_level (n ∷ outer) level ≡ Some node
level_outer n outer level node is =
    let less = level_below outer level node is in
    let other : nat_eq (length outer) level ≡ false = ne_eqb (length outer) level (λ same. let e : length outer ≡ level = same in absurd (omega (arith, less))) in
    ap (λ (b : Bool). cond b (Some n) (node_of_level outer level)) other ∙ is

pub level_here : (n : ℕ) (outer : List ℕ) (level : ℕ) → length outer ≡ level → node_of_level (n ∷ outer) level ≡ Some n
level_here n outer level same = ap (λ (b : Bool). cond b (Some n) (node_of_level outer level)) (eq-eqb (length outer) level same)

-- as many nodes as variables
pub as_many_nodes : (steps : List StepModel) (scope : Scope) (paths : VariablePaths) (nodes : List ℕ) → LeadThere steps scope paths nodes → length nodes ≡ length (variable_names scope)
as_many_nodes steps [] [] [] lead = refl
as_many_nodes steps (v ∷ scope) (p ∷ paths) (n ∷ nodes) lead = ap suc (as_many_nodes steps scope paths nodes lead.1)
as_many_nodes steps _ _ _ lead = absurd lead

pub level_within : (names : List (List ℕ)) (asked : List ℕ) (level : ℕ) → level_named names asked ≡ Some level → level < length names
level_within [] asked level is = absurd (cc)
level_within (bound ∷ outer) asked level is = by (pointwise nat_eq asked bound) (level_within outer asked level) is
  where
    by : (b : Bool) → (level_named outer asked ≡ Some level → level < length outer) → cond b (Some (length outer)) (level_named outer asked) ≡ Some level → level < suc (length outer)
    by true deeper at = let e : length outer ≡ level = cc in omega arith
    by false deeper at = let less : level < length outer = deeper at in omega arith

-- the path of a variable leads to its node
pub variable_leads : (steps : List StepModel) (scope : Scope) (paths : VariablePaths) (nodes : List ℕ) (asked : List ℕ) (level node : ℕ) (otherwise : PropertyPath)
    → LeadThere steps scope paths nodes → level_named (variable_names scope) asked ≡ Some level → node_of_level nodes level ≡ Some node
    → LeadsTo steps (unwrap_or (variable_path scope paths asked) otherwise) node
variable_leads steps [] [] [] asked level node otherwise lead named at = absurd (cc)
variable_leads steps (v ∷ scope) (p ∷ paths) (n ∷ nodes) asked level node otherwise lead named at =
    by (pointwise nat_eq asked v.name) (variable_leads steps scope paths nodes asked level node otherwise lead.1) named
  where
    many : length nodes ≡ length (variable_names scope)
    many = as_many_nodes steps scope paths nodes lead.1

    by : (b : Bool)
        → (level_named (variable_names scope) asked ≡ Some level → node_of_level nodes level ≡ Some node → LeadsTo steps (unwrap_or (variable_path scope paths asked) otherwise) node)
        → cond b (Some (length (variable_names scope))) (level_named (variable_names scope) asked) ≡ Some level
        → LeadsTo steps (unwrap_or (cond b (Some p) (variable_path scope paths asked)) otherwise) node
    by true outer is =
        let e : length (variable_names scope) ≡ level = cc in
        let here : node_of_level (n ∷ nodes) level ≡ Some n = level_here n nodes level (many ∙ e) in
        let found : Some n ≡ Some node = sym here ∙ at in
        let same : n ≡ node = cc in
        subst (λ (k : ℕ). LeadsTo steps p k) same lead.0
    by false outer is =
        let less : level < length (variable_names scope) = level_within (variable_names scope) asked level is in
        let other : nat_eq (length nodes) level ≡ false = ne_eqb (length nodes) level (λ same. let e : length nodes ≡ level = same in absurd (omega (arith, less, many, e))) in
        let there : node_of_level nodes level ≡ Some node = sym (ap (λ (b : Bool). cond b (Some n) (node_of_level nodes level)) other) ∙ at in
        outer is there
variable_leads steps _ _ _ asked level node otherwise lead named at = absurd lead

-- a name that no variable has
pub no_variable : (scope : Scope) (asked : List ℕ) → level_named (variable_names scope) asked ≡ None → variable_type scope asked ≡ None
no_variable [] asked none = refl
no_variable (v ∷ scope) asked none = by (pointwise nat_eq asked v.name) refl (no_variable scope asked) none
  where
    by : (b : Bool) → pointwise nat_eq asked v.name ≡ b → (level_named (variable_names scope) asked ≡ None → variable_type scope asked ≡ None)
        → cond b (Some (length (variable_names scope))) (level_named (variable_names scope) asked) ≡ None → variable_type (v ∷ scope) asked ≡ None
    by true is outer at = absurd (cc)
    by false is outer at = rw is (outer at)

pub no_path : (scope : Scope) (paths : VariablePaths) (asked : List ℕ) → level_named (variable_names scope) asked ≡ None → variable_path scope paths asked ≡ None
no_path [] paths asked none = refl
no_path (v ∷ scope) [] asked none = refl
no_path (v ∷ scope) (p ∷ paths) asked none = by (pointwise nat_eq asked v.name) (no_path scope paths asked) none
  where
    by : (b : Bool) → (level_named (variable_names scope) asked ≡ None → variable_path scope paths asked ≡ None)
        → cond b (Some (length (variable_names scope))) (level_named (variable_names scope) asked) ≡ None → cond b (Some p) (variable_path scope paths asked) ≡ None
    by true outer at = absurd (cc)
    by false outer at = outer at

-- ---- the nodes of the code

pub nodes_in-Empty : nodes_in Empty ≡ []
nodes_in-Empty = search (rules, the_lemmas)

pub nodes_in-Bound : (node : ℕ) (outer : Bor VariableNodes) → nodes_in (Bound node outer) ≡ node ∷ nodes_in outer.now
nodes_in-Bound node outer = search (rules, the_lemmas)

-- what a reference to nodes with one more holds
pub bound_nodes : (nodes : VariableNodes) (node : ℕ) (outer : Bor VariableNodes) → nodes ≡ Bound node outer → nodes_in nodes ≡ node ∷ nodes_in outer.now
bound_nodes nodes node outer is = ap nodes_in is ∙ nodes_in-Bound node outer
