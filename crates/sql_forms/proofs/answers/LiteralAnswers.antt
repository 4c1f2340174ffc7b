-- What the functions that put literals return.
use Rattle.sql_forms.proofs.Common.{◌≡◌, ◌≢◌, ◌++◌, ◌∷◌, [], ◌<◌, ℕ, ℤ, List, Bool, Some, Result, OnOk, get_or, length, refl, sym, ap, subst, ◌∙◌, slice_get_read, String, slice_get, string_bytes, Global, Date, MomentValue, moment_spelling, MomentParts, boolean, date, guid, member, null, text, whole, Value, gives, SqlNode, SqlType, Parameter, Draft, Source, GrowsBy, GrowsByText, IsLiteralAt, SourceHas, Puts, Question, by_node, puts_leaf, where_ok}
use Rattle.edm_values.specs.DateLiteral.{DateValue, date_spelling}
use Rattle.edm_values.specs.GuidLiteral.{GuidValue, guid_spelling}
use Rattle.sql_meaning.specs.ParameterGives.{HoldsNul}
use Rattle.sql_draft.specs.Translated.{IsNulFreeAt}
use Rattle.sql_outcomes.specs.private.ValueForms.{Itself}
use Rattle.sql_forms.proofs.puts.LiteralsPut.{leaf_literal, moment_literal, no_literal, parameter_literal}
use Rattle.sql_forms.proofs.puts.OperandsPut.{number_put}

-- what is read at the index stands there
pub literal_at : (values read : List Value) (place : ℕ) (x value : Value) → read ≡ values → place < length values → x ≡ get_or read place x → x ≡ value → slice_get values place ≡ Some value
literal_at values read place x value same within at is =
    subst (λ (xs : List Value). slice_get xs place ≡ Some x) same
    (slice_get_read read (length read) place x refl (subst (λ (xs : List Value). place < length xs) (sym same) within) at)
    ∙ ap Some is

module _ (question : Question) (place : ℕ) (old new : Draft) {T E : Type 0} (r : Result T E) where
  abbrev parameter_node : SqlType → SqlNode
  parameter_node type = SqlNode.Parameter (length old.tree.parameters.items) type

  pub ok_truth : (b : Bool) → slice_get question.filter.list.values place ≡ Some (Value.Bool b) → OnOk r (GrowsBy old new (SqlNode.Truth b ∷ []) [] []) → OnOk r (Puts question old new (IsLiteralAt question.filter place) Itself)
  ok_truth b at put =
      where_ok (λ (g : GrowsBy old new (SqlNode.Truth b ∷ []) [] []). leaf_literal question old new place (Value.Bool b) at (SqlNode.Truth b) refl (boolean b) refl (by_node old new (SqlNode.Truth b) refl g) (λ world. refl)) r put

  pub ok_whole : (n : ℤ) → slice_get question.filter.list.values place ≡ Some (Value.Int n) → OnOk r (GrowsBy old new (parameter_node SqlType.Whole ∷ []) [] (Parameter.Whole n ∷ []))
      → OnOk r (Puts question old new (IsLiteralAt question.filter place) Itself)
  ok_whole n at put =
      where_ok (parameter_literal question old new place (Value.Int n) at SqlType.Whole (Parameter.Whole n) (whole n) refl refl) r put

  pub ok_member : (n : ℤ) → slice_get question.filter.list.values place ≡ Some (Value.Enum n) → OnOk r (GrowsBy old new (parameter_node SqlType.Member ∷ []) [] (Parameter.Whole n ∷ []))
      → OnOk r (Puts question old new (IsLiteralAt question.filter place) Itself)
  ok_member n at put =
      where_ok (parameter_literal question old new place (Value.Enum n) at SqlType.Member (Parameter.Whole n) (member n) refl refl) r put

  pub ok_date : (d : Date) (front : List ℕ) (written : String Global) → slice_get question.filter.list.values place ≡ Some (Value.Date d) → DateValue (date_spelling d) d → front ≡ []
      → string_bytes written ≡ front ++ date_spelling d → OnOk r (GrowsBy old new (parameter_node SqlType.Date ∷ []) [] (Parameter.Text written ∷ []))
      → OnOk r (Puts question old new (IsLiteralAt question.filter place) Itself)
  ok_date d front written at value empty spelled put =
      where_ok (parameter_literal question old new place (Value.Date d) at SqlType.Date (Parameter.Text written) (date d) refl
      (d, subst (λ (bytes : List ℕ). DateValue bytes d) (sym (spelled ∙ ap (λ (f : List ℕ). f ++ date_spelling d) empty)) value, refl)) r put

  pub ok_text : (own written : String Global) → slice_get question.filter.list.values place ≡ Some (Value.Text own) → string_bytes written ≡ string_bytes own → IsNulFreeAt question.filter place
      → OnOk r (GrowsBy old new (parameter_node SqlType.Text ∷ []) [] (Parameter.Text written ∷ [])) → OnOk r (Puts question old new (IsLiteralAt question.filter place) Itself)
  ok_text own written at same nul_free put =
      where_ok (parameter_literal question old new place (Value.Text own) at SqlType.Text (Parameter.Text written) (text (string_bytes own)) refl
      (subst (λ (bytes : List ℕ). ¬ HoldsNul bytes) (sym same) (nul_free own at), ap (λ (bytes : List ℕ). gives (text bytes)) (sym same))) r put

  pub ok_guid : (bytes front : List ℕ) (written : String Global) → slice_get question.filter.list.values place ≡ Some (Value.Guid bytes) → GuidValue (guid_spelling bytes) bytes → front ≡ []
      → string_bytes written ≡ front ++ guid_spelling bytes → OnOk r (GrowsBy old new (parameter_node SqlType.Guid ∷ []) [] (Parameter.Text written ∷ []))
      → OnOk r (Puts question old new (IsLiteralAt question.filter place) Itself)
  ok_guid bytes front written at value empty spelled put =
      let is = spelled ∙ ap (λ (f : List ℕ). f ++ guid_spelling bytes) empty in
      where_ok (parameter_literal question old new place (Value.Guid bytes) at SqlType.Guid (Parameter.Text written) (guid bytes) refl
      (bytes, subst (λ (t : List ℕ). GuidValue t bytes) (sym is) value, is, refl)) r put

  -- null; a record and a list are no literals
  pub ok_other : (value : Value) → slice_get question.filter.list.values place ≡ Some value → ((b : Bool) → value ≢ Value.Bool b) → ((n : ℤ) → value ≢ Value.Int n) → ((t : String Global) → value ≢ Value.Text t)
      → ((d : Date) → value ≢ Value.Date d) → ((m : MomentParts) → value ≢ Value.Moment m) → ((bytes : List ℕ) → value ≢ Value.Guid bytes) → ((n : ℤ) → value ≢ Value.Enum n)
      → OnOk r (GrowsBy old new (SqlNode.Null SqlType.Text ∷ []) [] []) → OnOk r (Puts question old new (IsLiteralAt question.filter place) Itself)
  ok_other Value.Null at no_bool no_int no_text no_date no_moment no_guid no_enum put =
      where_ok (λ (g : GrowsBy old new (SqlNode.Null SqlType.Text ∷ []) [] []). leaf_literal question old new place Value.Null at (SqlNode.Null SqlType.Text) refl null refl (by_node old new (SqlNode.Null SqlType.Text) refl g) (λ world. refl)) r put
  ok_other (Value.Bool b) at no_bool no_int no_text no_date no_moment no_guid no_enum put = absurd (no_bool b refl)
  ok_other (Value.Int n) at no_bool no_int no_text no_date no_moment no_guid no_enum put = absurd (no_int n refl)
  ok_other (Value.Text t) at no_bool no_int no_text no_date no_moment no_guid no_enum put = absurd (no_text t refl)
  ok_other (Value.Date d) at no_bool no_int no_text no_date no_moment no_guid no_enum put = absurd (no_date d refl)
  ok_other (Value.Moment m) at no_bool no_int no_text no_date no_moment no_guid no_enum put = absurd (no_moment m refl)
  ok_other (Value.Guid bytes) at no_bool no_int no_text no_date no_moment no_guid no_enum put = absurd (no_guid bytes refl)
  ok_other (Value.Enum n) at no_bool no_int no_text no_date no_moment no_guid no_enum put = absurd (no_enum n refl)
  ok_other value at no_bool no_int no_text no_date no_moment no_guid no_enum put =
      where_ok (λ (g : GrowsBy old new (SqlNode.Null SqlType.Text ∷ []) [] []). puts_leaf question (SqlNode.Null SqlType.Text) refl old new (IsLiteralAt question.filter place) Itself (by_node old new (SqlNode.Null SqlType.Text) refl g)
      (λ world o is has. absurd (no_literal question old new place value at refl world o has))) r put

  pub ok_moment : (m : MomentParts) → slice_get question.filter.list.values place ≡ Some (Value.Moment m) → OnOk r (GrowsByText old new SqlType.Moment (λ t. MomentValue (string_bytes t) m))
      → OnOk r (Puts question old new (IsLiteralAt question.filter place) Itself)
  ok_moment m at put =
      where_ok (moment_literal question old new place m at) r put

  pub ok_enumeration : OnOk r (Puts question old new (IsLiteralAt question.filter place) Itself) → OnOk r (Puts question old new (SourceHas question.filter (Source.Number place)) Itself)
  ok_enumeration put =
      where_ok (number_put question old new place) r put

-- the text of a moment
pub ok_moment_text : (old new : Draft) {T E : Type 0} (r : Result T E) (m : MomentParts) (front : List ℕ) (written : String Global) → MomentValue (moment_spelling m) m → front ≡ []
    → string_bytes written ≡ front ++ moment_spelling m → OnOk r (GrowsBy old new (SqlNode.Parameter (length old.tree.parameters.items) SqlType.Moment ∷ []) [] (Parameter.Text written ∷ []))
    → OnOk r (GrowsByText old new SqlType.Moment (λ t. MomentValue (string_bytes t) m))
ok_moment_text old new r m front written value empty spelled put =
    where_ok (λ (g : GrowsBy old new (SqlNode.Parameter (length old.tree.parameters.items) SqlType.Moment ∷ []) [] (Parameter.Text written ∷ [])). record {
      written = written;
      meets = subst (λ (t : List ℕ). MomentValue t m) (sym (spelled ∙ ap (λ (f : List ℕ). f ++ moment_spelling m) empty)) value;
      by = g;
    }) r put
