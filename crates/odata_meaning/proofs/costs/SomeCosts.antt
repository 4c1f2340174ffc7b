-- What the definitions say that filters on the members 'a' and null cost.
use Rattle.std.proofs.Common.{◌≡◌, refl, ℕ, ◌+◌, ◌*◌, ◌++◌, List, [], ◌∷◌, codes, encode_utf8_all, inr, length, subst, sym, true, false}
use Rattle.std.specs.Prelude.{◌/◌}
use Rattle.std.specs.Prelude.{pos}
use Rattle.std.specs.Str.{chars}
use Rattle.edm_values.specs.MomentParts.{MomentParts}
use Rattle.edm_values.specs.Val.{Val, boolean, null, text, whole, item, items, no_items}
use Rattle.edm_values.specs.declared.primitive.PrimitiveType.{PrimitiveType}
use Rattle.csdl_schema.specs.ExprType.{ExprType, primitive, single}
use Rattle.odata_syntax.specs.declared.binary_operator.ComparisonOperator.{ComparisonOperator}
use Rattle.odata_filter_operations.specs.CompareGives.{CompareGives}
use Rattle.odata_filter_operations.specs.LeftFirst.{After}
use Rattle.odata_filter_operations.specs.Outcome.{Outcome, gives, divides_by_zero}
use Rattle.odata_syntax.specs.Tree.{Tree, trees_of_list}
use Rattle.odata_syntax.specs.declared.node.Quantifier.{Quantifier}
use Rattle.odata_signatures.specs.Typed.{Typed}
use Rattle.odata_signatures.specs.declared.function.Function.{Function}
use Rattle.odata_meaning.specs.ComesToMembers.{all_alike, is_alike, is_null, named, null_literal, over_tags, tagged, tagged_slots, text_and_null}
use Rattle.odata_meaning.specs.Costs.{CostAfter, Costs, CostThen}
use Rattle.odata_meaning.specs.Environment.{Environment, bound_over, scope_of}
use Rattle.odata_meaning.specs.Means.{Means}
use Rattle.odata_meaning.specs.OneByOne.{ItemAlone, MembersGo}
use Rattle.odata_meaning.specs.SomeCosts.{CostsOnTags, doubled, doubled_is_null, fault_first, is_itself, is_listed, is_member}
use Rattle.odata_filter_operations.specs.TextCosts.{comparison_cost}
use Rattle.odata_meaning.proofs.meaning.OneByOne.{items_both, members_both}
use Rattle.odata_meaning.proofs.meaning.MembersLaws.{divides, free, none, null_is_null, one, text_is_null, within_null, within_text}

-- what an operand costs, and after it what follows
paid : {Operand : Outcome → Type 0} {OperandCosts : ℕ → Type 0} {GoesOn : Val → ℕ → Type 0} (o : Outcome) (own rest : ℕ)
    → Operand o → OperandCosts own → CostThen o GoesOn rest → CostAfter Operand OperandCosts GoesOn (own + rest)
paid o own rest is costs follows = record { outcome = o; is = is; own = own; costs = costs; rest = rest; follows = follows; sum = refl }

-- the variable `t` at a value
abbrev At : Val → Environment
At v = bound_over [] (codes "t") (single (primitive PrimitiveType.String)) v

-- a comparison with null takes no texts
beside_null : (v : Val) → 0 ≡ comparison_cost v null
beside_null (text s) = refl
beside_null _ = refl

-- `t eq null`
null_test : (root : List ℕ) (now : MomentParts) (v : Val) → Costs tagged_slots root now (tagged text_and_null) (At v) is_null 0
null_test root now v = paid (gives v) 0 0 refl refl (paid (gives null) 0 0 tt refl (beside_null v))

pub some : CostsOnTags text_and_null (over_tags Quantifier.Any is_null) 2
some root now =
    paid (gives text_and_null) 0 2 refl refl (
      primitive PrimitiveType.String,
      refl,
      (
        1,
        paid (gives (boolean false)) 0 1 (text_is_null root now text_and_null) (null_test root now (text (codes "a")))
            (0, paid (gives (boolean true)) 0 0 (null_is_null root now text_and_null) (null_test root now null) refl, refl),
        refl,
      ),
    )

pub not_all : CostsOnTags text_and_null (over_tags Quantifier.All is_null) 1
not_all root now =
    paid (gives text_and_null) 0 1 refl refl (
      primitive PrimitiveType.String,
      refl,
      (0, paid (gives (boolean false)) 0 0 (text_is_null root now text_and_null) (null_test root now (text (codes "a"))) refl, refl),
    )

pub of_none : (quantifier : Quantifier) (body : Tree) → CostsOnTags (items no_items) (over_tags quantifier body) 0
of_none quantifier body root now =
    paid (gives (items no_items)) 0 0 refl refl (primitive PrimitiveType.String, refl, refl)

pub of_null : (quantifier : Quantifier) (body : Tree) → CostsOnTags null (over_tags quantifier body) 0
of_null quantifier body root now = paid (gives null) 0 0 refl refl refl

-- `1 div 0`
pub fault_costs : CostsOnTags text_and_null fault_first 0
fault_costs root now =
    paid divides_by_zero 0 0 (divides root now text_and_null []) (paid (gives (whole (pos 1))) 0 0 one refl (paid (gives (whole (pos 0))) 0 0 none refl refl)) refl

-- `Tags/all(u:u eq t)`, with `t` at a value
abbrev Both : Val → Val → Environment
Both v w = bound_over (At v) (codes "u") (single (primitive PrimitiveType.String)) w

alike_test : (root : List ℕ) (now : MomentParts) (v w : Val) → 0 ≡ comparison_cost w v → Costs tagged_slots root now (tagged text_and_null) (Both v w) is_alike 0
alike_test root now v w none = paid (gives w) 0 0 refl refl (paid (gives v) 0 0 refl refl none)

within_a_text : (root : List ℕ) (now : MomentParts) → Costs tagged_slots root now (tagged text_and_null) (At (text (codes "a"))) all_alike 2
within_a_text root now =
    paid (gives text_and_null) 0 2 refl refl (
      primitive PrimitiveType.String,
      refl,
      (
        1,
        paid (gives (boolean true)) 0 1 (gives (text (codes "a")), (inr (free _ _, refl), (gives (text (codes "a")), (inr (free _ _, refl), (tt, (λ is. refl, λ is. refl)))))) (alike_test root now (text (codes "a")) (text (codes "a")) refl)
            (0, paid (gives (boolean false)) 0 0 (gives null, (inr (free _ _, refl), (gives (text (codes "a")), (inr (free _ _, refl), (tt, (λ no. cc, λ no. absurd no)))))) (alike_test root now (text (codes "a")) null refl) refl, refl),
        refl,
      ),
    )

within_a_null : (root : List ℕ) (now : MomentParts) → Costs tagged_slots root now (tagged text_and_null) (At null) all_alike 1
within_a_null root now =
    paid (gives text_and_null) 0 1 refl refl (
      primitive PrimitiveType.String,
      refl,
      (0, paid (gives (boolean false)) 0 0 (gives (text (codes "a")), (inr (free _ _, refl), (gives null, (inr (free _ _, refl), (tt, (λ no. cc, λ no. absurd no)))))) (alike_test root now null (text (codes "a")) refl) refl, refl),
    )

pub within : CostsOnTags text_and_null (over_tags Quantifier.Any all_alike) 5
within root now =
    paid (gives text_and_null) 0 5 refl refl (
      primitive PrimitiveType.String,
      refl,
      (
        4,
        paid (gives (boolean false)) 2 2 (within_text root now) (within_a_text root now)
            (1, paid (gives (boolean false)) 1 0 (within_null root now) (within_a_null root now) refl, refl),
        refl,
      ),
    )

-- `t in (null,null)`, with `t` at a text
abbrev OtherSide : List ℕ → ExprType → Type 0
OtherSide root = Typed tagged_slots root (scope_of (At (text (codes "a")))) (named (codes "t"))

null_differs : (root : List ℕ) (now : MomentParts)
    → After (ItemAlone tagged_slots root now (tagged text_and_null) (At (text (codes "a"))) (OtherSide root) null_literal) (CompareGives ComparisonOperator.Eq (text (codes "a"))) (gives (boolean false))
null_differs root now = (gives null, (inr (free (OtherSide root) null_literal, tt), (tt, (λ no. cc, λ no. absurd no))))

listed_is_false : (root : List ℕ) (now : MomentParts) → Means tagged_slots root now (tagged text_and_null) (At (text (codes "a"))) is_listed (gives (boolean false))
listed_is_false root now = (
  gives (text (codes "a")),
  (
    refl,
    (items_both tagged_slots root now (tagged text_and_null) (At (text (codes "a"))) (OtherSide root) (text (codes "a")) (trees_of_list (null_literal ∷ null_literal ∷ [])) (gives (boolean false))).1
        (gives (boolean false), (null_differs root now, (gives (boolean false), (null_differs root now, refl)))),
  ),
)

null_alone : (root : List ℕ) (now : MomentParts)
    → ItemAlone tagged_slots root now (tagged text_and_null) (At (text (codes "a"))) (OtherSide root) null_literal (gives null)
null_alone root now = inr (free (OtherSide root) null_literal, tt)

listed_costs : (root : List ℕ) (now : MomentParts) → Costs tagged_slots root now (tagged text_and_null) (At (text (codes "a"))) is_listed 2
listed_costs root now =
    paid (gives (text (codes "a"))) 0 2 refl refl (
      1,
      paid (gives null) 0 1 (null_alone root now) refl
          (paid (gives (boolean false)) 0 1 (tt, (λ no. cc, λ no. absurd no)) refl
          (0, paid (gives null) 0 0 (null_alone root now) refl (paid (gives (boolean false)) 0 0 (tt, (λ no. cc, λ no. absurd no)) refl refl), refl)),
      refl,
    )

pub listed : CostsOnTags text_and_null (over_tags Quantifier.All is_listed) 3
listed root now = paid (gives text_and_null) 0 3 refl refl (primitive PrimitiveType.String, refl, (2, paid (gives (boolean false)) 2 0 (listed_is_false root now) (listed_costs root now) refl, refl))

-- `t in Tags`, with `t` at a value
member_is_true : (root : List ℕ) (now : MomentParts) (v : Val) → MembersGo Quantifier.Any (CompareGives ComparisonOperator.Eq v) (item (text (codes "a")) (item null no_items)) (gives (boolean true))
    → Means tagged_slots root now (tagged text_and_null) (At v) is_member (gives (boolean true))
member_is_true root now v go = (
  gives v,
  (
    refl,
    (gives text_and_null, (refl, (members_both Quantifier.Any (CompareGives ComparisonOperator.Eq v) (item (text (codes "a")) (item null no_items)) (gives (boolean true))).1 go)),
  ),
)

-- the text is equal to itself, null to the member after it
text_costs : (root : List ℕ) (now : MomentParts) → Costs tagged_slots root now (tagged text_and_null) (At (text (codes "a"))) is_member 1
text_costs root now =
    paid (gives (text (codes "a"))) 0 1 refl refl
    (paid (gives text_and_null) 0 1 refl refl (0, paid (gives (boolean true)) 0 0 (tt, (λ is. refl, λ is. refl)) refl refl, refl))

null_costs : (root : List ℕ) (now : MomentParts) → Costs tagged_slots root now (tagged text_and_null) (At null) is_member 2
null_costs root now =
    paid (gives null) 0 2 refl refl
    (paid (gives text_and_null) 0 2 refl refl (
      1,
      paid (gives (boolean false)) 0 1 (tt, (λ no. cc, λ no. absurd no)) refl (0, paid (gives (boolean true)) 0 0 (tt, (λ is. tt, λ is. refl)) refl refl, refl),
      refl,
    ))

pub compared : CostsOnTags text_and_null (over_tags Quantifier.All is_member) 5
compared root now =
    paid (gives text_and_null) 0 5 refl refl (
      primitive PrimitiveType.String,
      refl,
      (
        4,
        paid (gives (boolean true)) 1 3 (member_is_true root now (text (codes "a")) (gives (boolean true), ((tt, (λ is. refl, λ is. refl)), refl))) (text_costs root now) (
          2,
          paid (gives (boolean true)) 2 0 (member_is_true root now null (gives (boolean false), ((tt, (λ no. cc, λ no. absurd no)), (gives (boolean true), ((tt, (λ is. tt, λ is. refl)), refl)))))
              (null_costs root now) refl,
          refl,
        ),
        refl,
      ),
    )

-- `t eq t` on a member of 2,048 bytes
long_alike : (root : List ℕ) (now : MomentParts) (s : List ℕ) → length s ≡ 2048 → Costs tagged_slots root now (tagged (items (item (text s) no_items))) (At (text s)) is_itself 4
long_alike root now s long =
    paid (gives (text s)) 0 4 refl refl (paid (gives (text s)) 0 4 refl refl (subst (λ (n : ℕ). 4 ≡ n / 1024 + n / 1024) (sym long) refl))

pub long_texts : (s : List ℕ) → length s ≡ 2048 → CostsOnTags (items (item (text s) no_items)) (over_tags Quantifier.Any is_itself) 5
long_texts s long root now =
    paid (gives (items (item (text s) no_items))) 0 5 refl refl (
      primitive PrimitiveType.String,
      refl,
      (
        4,
        paid (gives (boolean true)) 4 0 (gives (text s), (inr (free _ _, refl), (gives (text s), (inr (free _ _, refl), (tt, (λ is. refl, λ is. refl))))))
            (long_alike root now s long) refl,
        refl,
      ),
    )

-- `concat(t,t)` on the same member
abbrev OnLong : List ℕ → Val
OnLong s = tagged (items (item (text s) no_items))

abbrev Doubled : List ℕ → Val
Doubled s = text (encode_utf8_all (chars s ++ chars s))

doubled_means : (root : List ℕ) (now : MomentParts) (s : List ℕ) → Means tagged_slots root now (OnLong s) (At (text s)) doubled (gives (Doubled s))
doubled_means root now s = record { function = Function.Concat; named = refl; given = (gives (text s), (refl, (gives (text s), (refl, refl)))) }

doubled_costs : (root : List ℕ) (now : MomentParts) (s : List ℕ) → length s ≡ 2048 → Costs tagged_slots root now (OnLong s) (At (text s)) doubled 96
doubled_costs root now s long =
    paid (gives (text s)) 0 96 refl refl (paid (gives (text s)) 0 96 refl refl (record {
      function = Function.Concat;
      named = refl;
      is = subst (λ (n : ℕ). 96 ≡ 8 * (n / 1024 + (n / 1024 + 0)) + 16 * ((n + n) / 1024)) (sym long) refl;
    }))

pub made_texts : (s : List ℕ) → length s ≡ 2048 → CostsOnTags (items (item (text s) no_items)) (over_tags Quantifier.Any doubled_is_null) 97
made_texts s long root now =
    paid (gives (items (item (text s) no_items))) 0 97 refl refl (
      primitive PrimitiveType.String,
      refl,
      (
        96,
        paid (gives (boolean false)) 96 0 (gives (Doubled s), (inr (free _ _, doubled_means root now s), (gives null, (inr (free _ _, tt), (tt, (λ no. cc, λ no. absurd no))))))
            (paid (gives (Doubled s)) 96 0 (doubled_means root now s) (doubled_costs root now s long) (paid (gives null) 0 0 tt refl refl)) refl,
        refl,
      ),
    )
