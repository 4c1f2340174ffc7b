-- Filters on a collection with two members, with none, and on null.
use Rattle.std.proofs.Common.{ℕ, ℤ, pos, List, [], ◌∷◌, Some, Ok, Err, true, false, refl, sym, subst, inl, inr, rules, lit<}
use Rattle.std.proofs.lemmas.Int.{fits_signed_from_abs}
use Rattle.std.specs.Prelude.{codes, FitsSigned}
use Rattle.std.specs.Int.{w32, w64}
use Rattle.std.specs.Str.Parse.{IsNumeral}
use Rattle.edm_values.specs.IntLiteral.{IntValue}
use Rattle.edm_values.specs.MomentParts.{MomentParts}
use Rattle.edm_values.specs.Val.{Val, null, boolean, whole, text, items, Vals, no_items, item}
use Rattle.edm_values.specs.declared.primitive.PrimitiveType.{PrimitiveType}
use Rattle.csdl_schema.specs.ExprType.{ExprType, primitive, single}
use Rattle.odata_functions.specs.declared.arithmetic.ArithFault.{ArithFault}
use Rattle.odata_syntax.specs.declared.binary_operator.ComparisonOperator.{ComparisonOperator}
use Rattle.odata_syntax.specs.Tree.{Shape, Tree, Trees, any_item, count, in_list, in_path, trees_of_list, node}
use Rattle.odata_syntax.specs.declared.node.Quantifier.{Quantifier}
use Rattle.odata_signatures.specs.Reads.{ReadsNumber}
use Rattle.odata_signatures.specs.Typed.{Typed}
use Rattle.odata_meaning.specs.ComesToMembers.{ComesToOn, all_alike, is_alike, is_null, named, null_literal, one_div_zero, over_tags, tagged, tagged_slots, text_and_null}
use Rattle.odata_filter_operations.specs.CompareGives.{CompareGives}
use Rattle.odata_meaning.specs.Environment.{Environment, bound_over}
use Rattle.odata_filter_operations.specs.LeftFirst.{After}
use Rattle.odata_meaning.specs.Means.{Means}
use Rattle.odata_meaning.specs.OneByOne.{ItemAlone, ItemsGo, MembersGo}
use Rattle.odata_filter_operations.specs.Outcome.{Outcome, gives, divides_by_zero}
use Rattle.odata_meaning.specs.private.LawsBelow.{OneEach}
use Rattle.odata_meaning.proofs.meaning.NoEnumerations.{unread}
use Rattle.odata_meaning.proofs.meaning.OneByOne.{items_both, members_both}
use Rattle.odata_meaning.proofs.meaning.OneMeaning.{Means-one}

comes_to_on : OneEach → (tags : Val) (shape : Shape) (outcome : Outcome)
    → ((root : List ℕ) (now : MomentParts) → Means tagged_slots root now (tagged tags) [] (node 0 0 shape) outcome) → ComesToOn tags shape outcome
comes_to_on known tags shape outcome related = λ root now o. (
  λ of_o. Means-one known tagged_slots root now (tagged tags) [] (node 0 0 shape) o outcome of_o (related root now),
  λ same. subst (Means tagged_slots root now (tagged tags) [] (node 0 0 shape)) (sym same) (related root now),
)

-- nothing is read there
pub free : (OtherSide : ExprType → Type 0) (tree : Tree) (n : ℤ) → ¬ ReadsNumber tagged_slots OtherSide tree n
free = unread tagged_slots (λ name. refl)

-- what a body evaluates to with a member for its variable
abbrev pub Body : List ℕ → MomentParts → Val → Environment → List ℕ → Tree → Val → Outcome → Type 0
Body root now tags environment variable body v =
    Means tagged_slots root now (tagged tags) (bound_over environment variable (single (primitive PrimitiveType.String)) v) body

-- the members of a list one by one
over_list : OneEach → (quantifier : Quantifier) (body : Tree) (values : Vals) (outcome : Outcome)
    → ((root : List ℕ) (now : MomentParts) → MembersGo quantifier (Body root now (items values) [] (codes "t") body) values outcome)
    → ComesToOn (items values) (over_tags quantifier body) outcome
over_list known quantifier body values outcome go =
    comes_to_on known (items values) (over_tags quantifier body) outcome (λ root now. (
      gives (items values),
      (
        refl,
        (
          primitive PrimitiveType.String,
          refl,
          (members_both quantifier (Body root now (items values) [] (codes "t") body) values outcome).1 (go root now),
        ),
      ),
    ))

-- ---- with `t eq null` for a body

pub text_is_null : (root : List ℕ) (now : MomentParts) (tags : Val) → Body root now tags [] (codes "t") is_null (text (codes "a")) (gives (boolean false))
text_is_null root now tags = (gives (text (codes "a")), (inr (free _ _, refl), (gives null, (inr (free _ _, tt), (tt, (λ no. cc, λ no. absurd no))))))

pub null_is_null : (root : List ℕ) (now : MomentParts) (tags : Val) → Body root now tags [] (codes "t") is_null null (gives (boolean true))
null_is_null root now tags = (gives null, (inr (free _ _, refl), (gives null, (inr (free _ _, tt), (tt, (λ is. tt, λ is. refl))))))

-- the second member decides `any`, the first one `all`
pub some_null : OneEach → ComesToOn text_and_null (over_tags Quantifier.Any is_null) (gives (boolean true))
some_null known = over_list known Quantifier.Any is_null (item (text (codes "a")) (item null no_items)) (gives (boolean true)) (λ root now.
    (gives (boolean false), (text_is_null root now text_and_null, (gives (boolean true), (null_is_null root now text_and_null, refl)))))

pub not_all_null : OneEach → ComesToOn text_and_null (over_tags Quantifier.All is_null) (gives (boolean false))
not_all_null known = over_list known Quantifier.All is_null (item (text (codes "a")) (item null no_items)) (gives (boolean false)) (λ root now.
    (gives (boolean false), (text_is_null root now text_and_null, refl)))

-- ---- with null for a body

pub any_of_null_body : OneEach → ComesToOn text_and_null (over_tags Quantifier.Any null_literal) (gives (boolean false))
any_of_null_body known = over_list known Quantifier.Any null_literal (item (text (codes "a")) (item null no_items)) (gives (boolean false)) (λ root now.
    (gives null, (tt, (gives null, (tt, refl)))))

pub all_of_null_body : OneEach → ComesToOn text_and_null (over_tags Quantifier.All null_literal) (gives (boolean false))
all_of_null_body known = over_list known Quantifier.All null_literal (item (text (codes "a")) (item null no_items)) (gives (boolean false)) (λ root now.
    (gives null, (tt, refl)))

-- ---- no member, and no collection

pub any_of_none : OneEach → (body : Tree) → ComesToOn (items no_items) (over_tags Quantifier.Any body) (gives (boolean false))
any_of_none known body = over_list known Quantifier.Any body no_items (gives (boolean false)) (λ root now. refl)

pub all_of_none : OneEach → (body : Tree) → ComesToOn (items no_items) (over_tags Quantifier.All body) (gives (boolean true))
all_of_none known body = over_list known Quantifier.All body no_items (gives (boolean true)) (λ root now. refl)

pub of_null : OneEach → (quantifier : Quantifier) (body : Tree) → ComesToOn null (over_tags quantifier body) (gives null)
of_null known quantifier body = comes_to_on known null (over_tags quantifier body) (gives null) (λ root now. (gives null, (refl, refl)))

-- ---- faults

numeral_one : IsNumeral 10 (codes "1")
numeral_one = search rules

numeral_zero : IsNumeral 10 (codes "0")
numeral_zero = search rules

fits_one : FitsSigned w64 (pos 1)
fits_one = fits_signed_from_abs w64 (pos 1) (lit< tt)

fits_zero : FitsSigned w64 (pos 0)
fits_zero = fits_signed_from_abs w64 (pos 0) (lit< tt)

small_one : FitsSigned w32 (pos 1)
small_one = fits_signed_from_abs w32 (pos 1) (lit< tt)

small_zero : FitsSigned w32 (pos 0)
small_zero = fits_signed_from_abs w32 (pos 0) (lit< tt)

pub one : IntValue (codes "1") (pos 1)
one = (inr (inr (numeral_one, refl)), fits_one)

pub none : IntValue (codes "0") (pos 0)
none = (inr (inr (numeral_zero, refl)), fits_zero)

pub divides : (root : List ℕ) (now : MomentParts) (tags : Val) (environment : Environment) → Means tagged_slots root now (tagged tags) environment one_div_zero divides_by_zero
divides root now tags environment =
    let int32 : ExprType = single (primitive PrimitiveType.Int32) in (
      gives (whole (pos 1)),
      (
        inr (free _ _, one),
        (
          gives (whole (pos 0)),
          (
            inr (free _ _, none),
            (
              int32,
              record {
                left = int32;
                right = int32;
                left_typed = (pos 1, one, (PrimitiveType.Int32, inl (small_one, refl), refl));
                right_typed = (pos 0, none, (PrimitiveType.Int32, inl (small_zero, refl), refl));
                makes = inl (record {
                  left_number = Some PrimitiveType.Int32;
                  right_number = Some PrimitiveType.Int32;
                  left_is = (tt, refl);
                  right_is = (tt, refl);
                  type_is = refl;
                });
              },
              (Err ArithFault.DivideByZero, (tt, refl), refl),
            ),
          ),
        ),
      ),
    )

-- an item beside null
abbrev Alone : List ℕ → MomentParts → Val → Tree → Outcome → Type 0
Alone root now tags = ItemAlone tagged_slots root now (tagged tags) [] (Typed tagged_slots root [] null_literal)

-- whether null is among these
among : OneEach → (tags : Val) (trees : Trees) (outcome : Outcome)
    → ((root : List ℕ) (now : MomentParts) → ItemsGo (Alone root now tags) null trees outcome)
    → ComesToOn tags (in_list null_literal trees) outcome
among known tags trees outcome go =
    comes_to_on known tags (in_list null_literal trees) outcome (λ root now.
    (gives null, (tt, (items_both tagged_slots root now (tagged tags) [] (Typed tagged_slots root [] null_literal) null trees outcome).1 (go root now))))

null_equals : (root : List ℕ) (now : MomentParts) (tags : Val) → After (Alone root now tags null_literal) (CompareGives ComparisonOperator.Eq null) (gives (boolean true))
null_equals root now tags = (gives null, (inr (free (Typed tagged_slots root [] null_literal) null_literal, tt), (tt, (λ is. tt, λ is. refl))))

pub fault_behind : OneEach → (tags : Val) → ComesToOn tags (in_list null_literal (trees_of_list (null_literal ∷ one_div_zero ∷ []))) (gives (boolean true))
fault_behind known tags =
    among known tags (trees_of_list (null_literal ∷ one_div_zero ∷ [])) (gives (boolean true)) (λ root now. (gives (boolean true), (null_equals root now tags, refl)))

pub fault_before : OneEach → (tags : Val) → ComesToOn tags (in_list null_literal (trees_of_list (one_div_zero ∷ null_literal ∷ []))) divides_by_zero
fault_before known tags =
    among known tags (trees_of_list (one_div_zero ∷ null_literal ∷ [])) divides_by_zero (λ root now.
    (divides_by_zero, ((divides_by_zero, (inr (free (Typed tagged_slots root [] null_literal) one_div_zero, divides root now tags []), refl)), refl)))

-- ---- a variable within another one

-- `Tags/all(u:u eq t)` with t for that value
within : (root : List ℕ) (now : MomentParts) (v : Val) → MembersGo Quantifier.All (Body root now text_and_null (bound_over [] (codes "t") (single (primitive PrimitiveType.String)) v) (codes "u") is_alike)
    (item (text (codes "a")) (item null no_items)) (gives (boolean false))
    → Body root now text_and_null [] (codes "t") all_alike v (gives (boolean false))
within root now v go = (
  gives text_and_null,
  (
    refl,
    (
      primitive PrimitiveType.String,
      refl,
      (members_both Quantifier.All (Body root now text_and_null (bound_over [] (codes "t") (single (primitive PrimitiveType.String)) v) (codes "u") is_alike)
          (item (text (codes "a")) (item null no_items)) (gives (boolean false))).1 go,
    ),
  ),
)

-- the text is like itself and unlike null, and null is unlike the text
pub within_text : (root : List ℕ) (now : MomentParts) → Body root now text_and_null [] (codes "t") all_alike (text (codes "a")) (gives (boolean false))
within_text root now =
    within root now (text (codes "a")) (
      gives (boolean true),
      (
        (gives (text (codes "a")), (inr (free _ _, refl), (gives (text (codes "a")), (inr (free _ _, refl), (tt, (λ is. refl, λ is. refl)))))),
        (gives (boolean false), ((gives null, (inr (free _ _, refl), (gives (text (codes "a")), (inr (free _ _, refl), (tt, (λ no. cc, λ no. absurd no)))))), refl)),
      ),
    )

pub within_null : (root : List ℕ) (now : MomentParts) → Body root now text_and_null [] (codes "t") all_alike null (gives (boolean false))
within_null root now =
    within root now null
    (gives (boolean false), ((gives (text (codes "a")), (inr (free _ _, refl), (gives null, (inr (free _ _, refl), (tt, (λ no. cc, λ no. absurd no)))))), refl))

pub outer_variable : OneEach → ComesToOn text_and_null (over_tags Quantifier.Any all_alike) (gives (boolean false))
outer_variable known = over_list known Quantifier.Any all_alike (item (text (codes "a")) (item null no_items)) (gives (boolean false)) (λ root now.
    (gives (boolean false), (within_text root now, (gives (boolean false), (within_null root now, refl)))))

-- ---- without a body

fits_two : FitsSigned w64 (pos 2)
fits_two = fits_signed_from_abs w64 (pos 2) (lit< tt)

pub two_counted : OneEach → ComesToOn text_and_null (count (named (codes "Tags"))) (gives (whole (pos 2)))
two_counted known = comes_to_on known text_and_null (count (named (codes "Tags"))) (gives (whole (pos 2))) (λ root now.
    (gives text_and_null, (refl, (Ok (Some (pos 2)), (refl, fits_two), refl))))

pub null_counted : OneEach → ComesToOn null (count (named (codes "Tags"))) (gives null)
null_counted known = comes_to_on known null (count (named (codes "Tags"))) (gives null) (λ root now. (gives null, (refl, refl)))

pub any_member : OneEach → ComesToOn text_and_null (any_item (named (codes "Tags"))) (gives (boolean true))
any_member known = comes_to_on known text_and_null (any_item (named (codes "Tags"))) (gives (boolean true)) (λ root now. (gives text_and_null, (refl, refl)))

pub null_member : OneEach → ComesToOn text_and_null (in_path null_literal (named (codes "Tags"))) (gives (boolean true))
null_member known = comes_to_on known text_and_null (in_path null_literal (named (codes "Tags"))) (gives (boolean true)) (λ root now. (
  gives null,
  (
    tt,
    (
      gives text_and_null,
      (
        refl,
        (members_both Quantifier.Any (CompareGives ComparisonOperator.Eq null) (item (text (codes "a")) (item null no_items)) (gives (boolean true))).1
            (gives (boolean false), ((tt, (λ no. cc, λ no. absurd no)), (gives (boolean true), ((tt, (λ is. tt, λ is. refl)), refl)))),
      ),
    ),
  ),
))

pub in_null : OneEach → ComesToOn null (in_path null_literal (named (codes "Tags"))) (gives null)
in_null known = comes_to_on known null (in_path null_literal (named (codes "Tags"))) (gives null) (λ root now. (gives null, (tt, (gives null, (refl, refl)))))
