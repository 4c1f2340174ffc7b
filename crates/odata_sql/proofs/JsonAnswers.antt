-- Conditions as a JSON text: parameters one after another, and how deep the object nests.
use Rattle.std.proofs.Common.{◌≡◌, ℕ, zero, suc, ◌+◌, ◌++◌, ◌∷◌, [], List, Option, Some, None, take, refl, sym, ap, subst, ◌∙◌, arith}
use Rattle.std.proofs.Common.{Err, Global, Ok, Result, String}
use Rattle.std.specs.Prelude.{IfOk, IsSomeAnd, codes, max, slice_get, string_bytes, ◌≤◌}
use Rattle.std.specs.declared.alloc.AllocError.{AllocError}
use Rattle.serde_json.specs.Data.{Data, Items, array, depth, item, items_depth, member, no_items, no_members, object, string}
use Rattle.serde_json.specs.Find.{get}
use Rattle.serde_json.specs.Read.{read}
use Rattle.serde_json.specs.View.{items_view, view}
use Rattle.serde_json.specs.declared.value.Value.{Value}
use Rattle.sql_tree.specs.declared.dialect.Dialect.{Dialect}
use Rattle.sql_tree.specs.declared.parameter.Parameter.{Parameter}
use Rattle.odata_sql.specs.JsonText.{AreParameters, IsConditions, IsParameter, IsStatement, IsStatementOrNone, IsTextOf}
use Rattle.odata_sql.specs.declared.translation.Conditions.{Conditions}
use Rattle.odata_sql.specs.declared.translation.Statement.{Statement}
use Rattle.odata_sql.specs.private.StatementData.{IsStatementData}

-- one parameter more
are_more : (dialect : Dialect) (ps : List Parameter) (p : Parameter) (vs : List Value) (v : Value) → AreParameters dialect ps (items_view vs) → IsParameter dialect p (view v)
    → AreParameters dialect (ps ++ p ∷ []) (items_view (vs ++ v ∷ []))
are_more dialect [] p [] v are is = (is, tt)
are_more dialect [] p (w ∷ vs) v are is = absurd are
are_more dialect (q ∷ ps) p [] v are is = absurd are
are_more dialect (q ∷ ps) p (w ∷ vs) v are is = (are.0, are_more dialect ps p vs v are.1 is)

taken_more : (ps : List Parameter) (n : ℕ) (p : Parameter) → slice_get ps n ≡ Some p → take (suc n) ps ≡ take n ps ++ p ∷ []
taken_more [] n p at = let none : None ≡ Some p = at in absurd (cc)
taken_more (q ∷ ps) zero p at =
    let there : Some q ≡ Some p = at in
    let same : q ≡ p = cc in
    ap (λ (x : Parameter). x ∷ []) same
taken_more (q ∷ ps) (suc n) p at = ap (λ (xs : List Parameter). q ∷ xs) (taken_more ps n p at)

pub parameters_go_on : (dialect : Dialect) (ps : List Parameter) (n : ℕ) (p : Parameter) (vs ws : List Value) (v : Value) → slice_get ps n ≡ Some p → AreParameters dialect (take n ps) (items_view vs)
    → IsParameter dialect p (view v) → ws ≡ vs ++ v ∷ [] → AreParameters dialect (take (n + 1) ps) (items_view ws)
parameters_go_on dialect ps n p vs ws v at are is more =
    let on : suc n ≡ n + 1 = omega arith in
    let next : take (n + 1) ps ≡ take n ps ++ p ∷ [] = ap (λ (k : ℕ). take k ps) (sym on) ∙ taken_more ps n p at in
    subst (λ (xs : List Parameter). AreParameters dialect xs (items_view ws)) (sym next)
    (subst (λ (xs : List Value). AreParameters dialect (take n ps ++ p ∷ []) (items_view xs)) (sym more) (are_more dialect (take n ps) p vs v are is))

-- ---- a statement as JSON

-- numbers and texts do not nest
one_flat : (dialect : Dialect) (p : Parameter) (json : Data) → IsParameter dialect p json → depth json ≡ 0
one_flat dialect (Parameter.Whole n) json is = ap depth is
one_flat dialect (Parameter.Text t) json is = ap depth is
one_flat dialect (Parameter.Instant n) json is = ap depth is

all_flat : (dialect : Dialect) (ps : List Parameter) (items : Items) → AreParameters dialect ps items → items_depth items ≡ 0
all_flat dialect [] no_items are = refl
all_flat dialect [] (item json items) are = absurd are
all_flat dialect (p ∷ ps) no_items are = absurd are
all_flat dialect (p ∷ ps) (item json items) are =
    ap (λ (k : ℕ). max k (items_depth items)) (one_flat dialect p json are.0) ∙ ap (λ (k : ℕ). max 0 k) (all_flat dialect ps items are.1)

pub statement_depth : (dialect : Dialect) (statement : Statement) (json : Data) → IsStatementData dialect statement json → depth json ≡ 2
statement_depth dialect statement json is =
    ap depth is.json_is ∙ ap (λ (k : ℕ). suc (max (suc k) (max 0 0))) (all_flat dialect statement.parameters.items is.items is.parameters)

-- its members are those of a statement
pub is_statement : (dialect : Dialect) (statement : Statement) (json : Data) → IsStatementData dialect statement json → IsStatement dialect statement json
is_statement dialect statement json is = record {
  text_is = ap (get (codes "text")) is.json_is;
  items = is.items;
  parameters_are = ap (get (codes "parameters")) is.json_is;
  parameters = is.parameters;
}

-- ---- the conditions as JSON

-- what reads back as an object of the three, or of two where no row can have a fault, is the text of conditions
module _ (dialect : Dialect) (conditions : Conditions) (text : List ℕ) (v o k : Data) (reads : depth v ≤ 127 → read text ≡ Some v) (of_outcome : IsStatementData dialect conditions.outcome o)
    (of_keep : IsStatementData dialect conditions.keep k) where
  read_as : (IsConditions dialect conditions v) → depth v ≡ 3 → IsTextOf dialect conditions text
  read_as are deep = subst (λ (r : Option Data). IsSomeAnd r (IsConditions dialect conditions)) (sym (reads (omega (arith, deep)))) are

  of_two : depth k ≡ 2 → depth o ≡ 2 → suc (max (depth k) (max (depth o) 0)) ≡ 3
  of_two dk last = ap (λ (n : ℕ). suc (max n (max (depth o) 0))) dk ∙ ap (λ (n : ℕ). suc (max 2 (max n 0))) last

  pub without_fault : conditions.fault ≡ None → v ≡ object (member (codes "keep") k (member (codes "outcome") o no_members)) → IsTextOf dialect conditions text
  without_fault none value =
      read_as
      (subst (IsConditions dialect conditions) (sym value)
      (record {
        outcome = is_statement dialect conditions.outcome o of_outcome;
        keep = is_statement dialect conditions.keep k of_keep;
        fault = subst (λ (f : Option Statement). IsStatementOrNone dialect f None) (sym none) refl;
      }))
      (ap depth value ∙ of_two (statement_depth dialect conditions.keep k of_keep) (statement_depth dialect conditions.outcome o of_outcome))

  pub with_fault : (f : Data) (statement : Statement) → conditions.fault ≡ Some statement → IsStatementData dialect statement f
      → v ≡ object (member (codes "fault") f (member (codes "keep") k (member (codes "outcome") o no_members))) → IsTextOf dialect conditions text
  with_fault f statement some of_fault value =
      let df = statement_depth dialect statement f of_fault in
      let dk = statement_depth dialect conditions.keep k of_keep in
      let last = statement_depth dialect conditions.outcome o of_outcome in
      read_as
      (subst (IsConditions dialect conditions) (sym value)
      (record {
        outcome = is_statement dialect conditions.outcome o of_outcome;
        keep = is_statement dialect conditions.keep k of_keep;
        fault = subst (λ (g : Option Statement). IsStatementOrNone dialect g (Some f)) (sym some) (is_statement dialect statement f of_fault);
      }))
      (ap depth value ∙ ap (λ (n : ℕ). suc (max n (max (depth k) (max (depth o) 0)))) df ∙ ap (λ (n : ℕ). suc (max 2 (max n (max (depth o) 0)))) dk ∙ ap (λ (n : ℕ). suc (max 2 (max 2 (max n 0)))) last)

-- ---- as the calls return them

pub is_data : (dialect : Dialect) (statement : Statement) (vs : List Value) (text : List ℕ) (result : Result Value AllocError) → text ≡ string_bytes statement.text
    → AreParameters dialect statement.parameters.items (items_view vs)
    → IfOk result (λ value. view value ≡ object (member (codes "parameters") (array (items_view vs)) (member (codes "text") (string text) no_members)))
    → IfOk result (λ value. IsStatementData dialect statement (view value))
is_data dialect statement vs text (Ok value) same are is = record {
  items = items_view vs;
  parameters = are;
  json_is = is ∙ ap (λ (t : List ℕ). object (member (codes "parameters") (array (items_view vs)) (member (codes "text") (string t) no_members))) same;
}
is_data dialect statement vs text (Err fault) same are is = tt

abbrev IsWritten : Dialect → Conditions → Result (String Global) AllocError → Type 0
IsWritten dialect conditions result = IfOk result (λ text. IsTextOf dialect conditions (string_bytes text))

pub text_without_fault : (dialect : Dialect) (conditions : Conditions) (result : Result (String Global) AllocError) (v o k : Data) → IfOk result (λ s. depth v ≤ 127 → read (string_bytes s) ≡ Some v)
    → IsStatementData dialect conditions.outcome o → IsStatementData dialect conditions.keep k → conditions.fault ≡ None
    → v ≡ object (member (codes "keep") k (member (codes "outcome") o no_members)) → IsWritten dialect conditions result
text_without_fault dialect conditions (Ok text) v o k reads of_outcome of_keep none value =
    without_fault dialect conditions (string_bytes text) v o k reads of_outcome of_keep none value
text_without_fault dialect conditions (Err fault) v o k reads of_outcome of_keep none value = tt

pub text_with_fault : (dialect : Dialect) (conditions : Conditions) (result : Result (String Global) AllocError) (v o k : Data) → IfOk result (λ s. depth v ≤ 127 → read (string_bytes s) ≡ Some v)
    → IsStatementData dialect conditions.outcome o → IsStatementData dialect conditions.keep k → (f : Data) (statement : Statement) → conditions.fault ≡ Some statement
    → IsStatementData dialect statement f → v ≡ object (member (codes "fault") f (member (codes "keep") k (member (codes "outcome") o no_members))) → IsWritten dialect conditions result
text_with_fault dialect conditions (Ok text) v o k reads of_outcome of_keep f statement some of_fault value =
    with_fault dialect conditions (string_bytes text) v o k reads of_outcome of_keep f statement some of_fault value
text_with_fault dialect conditions (Err fault) v o k reads of_outcome of_keep f statement some of_fault value = tt
