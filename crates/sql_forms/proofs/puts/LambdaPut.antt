-- What is put for `any` and `all` whose bodies evaluate to no fault.
use Rattle.sql_forms.proofs.Common.{slice_get-map, option_map, ◌≡◌, ◌<◌, ◌+◌, ◌∷◌, [], ℕ, suc, List, Bool, true, false, not, Option, Some, None, length, map, refl, sym, ap, subst, ◌∙◌, arith, slice_get, slice_get_within, IsMoment, Val, boolean, null, Quantifier, EndsOnceOnEntities, found_there, some_there, Outcome, gives, overflow, divides_by_zero, QuantifierGives, not3, IsWithin, Range, IsCoded, is_true, truth, SqlNode, Draft, Form, Grows, AtMembers, IsStopAt, OfTree, OverHas, PutsBody, at_member, IsPathTo, AreRanges, IsFaultless, IsTruthAt, IsAskedOf, OfPlace, Puts, Question, World, puts_as, puts_one}
use Rattle.sql_forms.specs.Forms.{IsInForm}
use Rattle.sql_outcomes.specs.private.ValueForms.{Itself}
use Rattle.sql_forms.proofs.puts.BodyPut.{AreAlikeTruths, AreTruthsAt, SomeHas, body_after, exists_put}
use Rattle.sql_forms.proofs.puts.ComparisonsPut.{is_true_node, not_node}
use Rattle.sql_forms.proofs.puts.MemberOutcomes.{AreOutcomesAt, body_is, inside_member, outcomes}
use Rattle.sql_outcomes.proofs.outcomes.Quantified.{AreTruths, all_is, any_is, any_true, untrue}
use Rattle.sql_outcomes.proofs.nodes.WorldNodes.{truth_coded}
use Rattle.sql_outcomes.proofs.outcomes.ComparedValues.{not_truth}
use Rattle.odata_checked_filter.proofs.flat.Places.{found_within}
use Rattle.std.proofs.lemmas.List.{length-map}

-- ---- bodies that evaluate to no fault

value_truth : (p : Outcome) (range : Range) → IsCoded p → range.may_fault ≡ false → IsWithin range p → (u : Option Bool) × (p ≡ truth u)
value_truth (gives (boolean b)) range coded none within = (Some b, refl)
value_truth (gives null) range coded none within = (None, refl)
value_truth overflow range coded none within = let no : true ≡ false = sym within ∙ none in absurd (cc)
value_truth divides_by_zero range coded none within = let no : true ≡ false = sym within ∙ none in absurd (cc)
value_truth _ range coded none within = absurd coded

all_truths : (ps : List Outcome) → ((k : ℕ) (p : Outcome) → slice_get ps k ≡ Some p → (u : Option Bool) × (p ≡ truth u)) → (us : List (Option Bool)) × (ps ≡ map truth us)
all_truths [] all = ([], refl)
all_truths (p ∷ ps) all =
    let u = all 0 p refl in
    let rest = all_truths ps (λ k q at. all (suc k) q at) in
    (u.0 ∷ rest.0, ap (λ (x : Outcome). x ∷ ps) u.1 ∙ ap (λ (xs : List Outcome). truth u.0 ∷ xs) rest.1)

module _ (question : Question) (ends : EndsOnceOnEntities) (is_moment : IsMoment question.now.civil question.now.offset_minutes) (ranges : List Range) (are : AreRanges question ranges) (body : ℕ)
    (is_truth : IsTruthAt question.filter body) (faultless : IsFaultless ranges body) where
  module _ (quantifier : Quantifier) (place : ℕ) (world : World) (seen : IsAskedOf question world) (o : Outcome) (over : OverHas question.filter quantifier place world o) (is_body : over.body ≡ body) where
    abbrev At : ℕ → Outcome → Type 0
    At = AtMembers question.filter over.body over.tree world over.variable over.members

    truth_at : (k : ℕ) (v : Val) (p : Outcome) → slice_get over.members k ≡ Some v → OfTree question.filter over.body over.tree (at_member world over.variable k v) p → (u : Option Bool) × (p ≡ truth u)
    truth_at k v p at_v has =
        let inside = inside_member question quantifier place world o over seen k v at_v in
        let of_place : OfPlace question.filter body (at_member world over.variable k v) p =
        subst (λ (n : ℕ). OfPlace question.filter n (at_member world over.variable k v) p) is_body (over.tree, has.0, has.1) in
        let range = some_there (λ (r : Range). r.may_fault ≡ false) (slice_get ranges body) faultless in
        value_truth p range.0 (truth_coded question ends is_moment (at_member world over.variable k v) inside body is_truth p of_place) range.1.1
        (are.within body range.0 (at_member world over.variable k v) p range.1.0 inside of_place)

    truth_of : (k : ℕ) (p : Outcome) → At k p → (u : Option Bool) × (p ≡ truth u)
    truth_of k p of_p =
        let v = some_there (λ (w : Val). OfTree question.filter over.body over.tree (at_member world over.variable k w) p) (slice_get over.members k) of_p in
        truth_at k v.0 p v.1.0 v.1.1

    pub truths : (us : List (Option Bool)) × AreTruthsAt At over.members us
    truths =
        let all = outcomes question quantifier place world o over in
        let t = all_truths all.0 (λ k p at. truth_of k p (all.1.each k p at)) in
        let at : AreOutcomesAt At over.members (map truth t.0) = subst (AreOutcomesAt At over.members) t.1 all.1 in (
          t.0,
          record {
            many = sym (length-map t.0 truth) ∙ at.many;
            each = λ k u there. at.each k (truth u) (slice_get-map truth t.0 k ∙ ap (λ (x : Option (Option Bool)). option_map truth x) there);
          },
        )

    -- each body evaluates to its truth value alone
    pub are_truths : (us : List (Option Bool)) → AreTruthsAt At over.members us → AreTruths At us
    are_truths us at = record {
      one = λ k a b of_a of_b.
          let v = some_there (λ (w : Val). OfTree question.filter over.body over.tree (at_member world over.variable k w) a) (slice_get over.members k) of_a in
          let also = found_there (λ (w : Val). OfTree question.filter over.body over.tree (at_member world over.variable k w) b) (slice_get over.members k) v.0 v.1.0 of_b in
          let one = over.each k v.0 v.1.0 in
          one.only a v.1.1 ∙ sym (one.only b also);
      each = at.each;
      inside = λ k p of_p.
          let v = some_there (λ (w : Val). OfTree question.filter over.body over.tree (at_member world over.variable k w) p) (slice_get over.members k) of_p in
          let below : k < length over.members = slice_get_within over.members k v.0 v.1.0 in
          let count : length us ≡ length over.members = at.many in
          found_within us k (omega (arith, below, count));
    }

-- ---- forms of a body

abbrev pub keeps_it : Option Bool → Option Bool
keeps_it u = u

is_kept : (u : Option Bool) → truth u ≡ gives (boolean true) → u ≡ Some true
is_kept (Some true) is = refl
is_kept _ is = absurd (cc)

kept_truths : (u : Option Bool) (x : Outcome) → IsInForm Form.Keeps (truth u) x → (s : Option Bool) × (x ≡ truth s) × AreAlikeTruths (keeps_it u) s
kept_truths u x form = (form.0, form.1, record { into = λ is_so. is_kept u (form.2.0 is_so); out = λ is_so. form.2.1 (ap truth is_so) })

mapped : (us : List (Option Bool)) → map keeps_it us ≡ us
mapped [] = refl
mapped (u ∷ us) = ap (λ (xs : List (Option Bool)). u ∷ xs) (mapped us)

-- true exactly where it is true, and false exactly there
abbrev AsTrue : Outcome → Outcome → Type 0
AsTrue o x = (b : Bool) × (x ≡ gives (boolean b)) × (b ≡ true → o ≡ gives (boolean true)) × (o ≡ gives (boolean true) → b ≡ true)

abbrev Denied : Outcome → Outcome → Type 0
Denied o x = (b : Bool) × (x ≡ gives (boolean b)) × (b ≡ false → o ≡ gives (boolean true)) × (o ≡ gives (boolean true) → b ≡ false)

asked_true : (o x : Outcome) → IsInForm Form.Keeps o x → (y : Outcome) × ((s : Option Bool) × (x ≡ truth s) × (y ≡ is_true s)) × AsTrue o y
asked_true o x form = (is_true form.0, (form.0, form.1, refl), of_flag form.0 form.2.0 form.2.1)
  where
    of_flag : (s : Option Bool) → (s ≡ Some true → o ≡ gives (boolean true)) → (o ≡ gives (boolean true) → s ≡ Some true) → AsTrue o (is_true s)
    of_flag (Some true) into out = (true, refl, λ is_so. into refl, λ is_so. refl)
    of_flag (Some false) into out = (false, refl, λ no. absurd (cc), λ is_so. let s : Some false ≡ Some true = out is_so in absurd (cc))
    of_flag None into out = (false, refl, λ no. absurd (cc), λ is_so. let s : None ≡ Some true = out is_so in absurd (cc))

true_denied : (o x : Outcome) → AsTrue o x → (y : Outcome) × ((s : Option Bool) × (x ≡ truth s) × (y ≡ truth (not3 s))) × Denied o y
true_denied o x form = (truth (not3 (Some form.0)), (Some form.0, form.1, refl), of_flag form.0 form.2 form.3)
  where
    of_flag : (b : Bool) → (b ≡ true → o ≡ gives (boolean true)) → (o ≡ gives (boolean true) → b ≡ true) → Denied o (truth (not3 (Some b)))
    of_flag true into out = (false, refl, λ is_so. into refl, λ is_so. refl)
    of_flag false into out = (true, refl, λ no. absurd (cc), λ is_so. let s : false ≡ true = out is_so in absurd (cc))

denied_truths : (u : Option Bool) (x : Outcome) → Denied (truth u) x → (s : Option Bool) × (x ≡ truth s) × AreAlikeTruths (untrue u) s
denied_truths u x form = (Some form.0, form.1, by form.0 u form.2 form.3)
  where
    by : (b : Bool) (v : Option Bool) → (b ≡ false → truth v ≡ gives (boolean true)) → (truth v ≡ gives (boolean true) → b ≡ false) → AreAlikeTruths (untrue v) (Some b)
    by true (Some true) into out = let no : true ≡ false = out refl in absurd (cc)
    by false (Some true) into out = record { into = λ is_so. is_so; out = λ is_so. is_so }
    by false (Some false) into out = let no : gives (boolean false) ≡ gives (boolean true) = into refl in absurd (cc)
    by false None into out = let no : gives null ≡ gives (boolean true) = into refl in absurd (cc)
    by true _ into out = record { into = λ is_so. refl; out = λ is_so. refl }

-- ---- the operators

module _ (question : Question) (ends : EndsOnceOnEntities) (is_moment : IsMoment question.now.civil question.now.offset_minutes) (ranges : List Range) (are : AreRanges question ranges) (body : ℕ)
    (is_truth : IsTruthAt question.filter body) (faultless : IsFaultless ranges body) (place path level : ℕ) (stops : IsStopAt question.filter (place + 1) body) where
  -- what the bodies evaluate to, and what the quantifier makes of that
  module _ (quantifier : Quantifier) (world : World) (seen : IsAskedOf question world) (o : Outcome) (over : OverHas question.filter quantifier place world o) where
    of_over : (us : List (Option Bool)) × AreTruthsAt (AtMembers question.filter over.body over.tree world over.variable over.members) over.members us
    of_over = truths question ends is_moment ranges are body is_truth faultless quantifier place world seen o over (body_is question quantifier place world o over body stops)

    given_of : QuantifierGives quantifier (length of_over.0) (AtMembers question.filter over.body over.tree world over.variable over.members) o
    given_of = subst (λ (n : ℕ). QuantifierGives quantifier n (AtMembers question.filter over.body over.tree world over.variable over.members) o) (sym of_over.1.many) over.given

    truths_of : AreTruths (AtMembers question.filter over.body over.tree world over.variable over.members) of_over.0
    truths_of = are_truths question ends is_moment ranges are body is_truth faultless quantifier place world seen o over (body_is question quantifier place world o over body stops) of_over.0 of_over.1

  pub any_put : (old middle new : Draft) → level ≡ old.depth → Grows old middle (SqlNode.Exists path level ∷ []) → IsPathTo question old (place + 1) path
      → PutsBody question middle new (OfPlace question.filter body) (IsInForm Form.Keeps) → Puts question old new (OverHas question.filter Quantifier.Any place) Itself
  any_put old middle new level_is grows leads b =
      puts_as question old new (SomeHas question.filter keeps_it place body) (OverHas question.filter Quantifier.Any place) Itself Itself
      (exists_put question keeps_it (IsInForm Form.Keeps) kept_truths place body path level old middle new level_is grows leads b)
      (λ world o is has.
      let t = of_over Quantifier.Any world is.seen o has in
      let comes = any_is (AtMembers question.filter has.body has.tree world has.variable has.members) t.0 (truths_of Quantifier.Any world is.seen o has) o (given_of Quantifier.Any world is.seen o has) in (
        o,
        record {
          quantifier = Quantifier.Any;
          whole = o;
          over = has;
          is_body = body_is question Quantifier.Any place world o has body stops;
          us = t.0;
          truths = t.1;
          is = comes ∙ ap (λ (us : List (Option Bool)). gives (boolean (any_true us))) (sym (mapped t.0));
        },
        λ x form. form,
      ))

  pub all_put : (old d1 d2 d3 d4 new : Draft) → level ≡ d1.depth → Grows old d1 (SqlNode.Not ∷ []) → Grows d1 d2 (SqlNode.Exists path level ∷ []) → Grows d2 d3 (SqlNode.Not ∷ []) → Grows d3 d4 (SqlNode.IsTrue ∷ [])
      → IsPathTo question d1 (place + 1) path → PutsBody question d4 new (OfPlace question.filter body) (IsInForm Form.Keeps) → Puts question old new (OverHas question.filter Quantifier.All place) Itself
  all_put old d1 d2 d3 d4 new level_is not_grows exists_grows deny_grows true_grows leads b =
      puts_one question SqlNode.Not refl (λ x y. (s : Option Bool) × (x ≡ truth s) × (y ≡ truth (not3 s))) old d1 new (SomeHas question.filter untrue place body) (OverHas question.filter Quantifier.All place) Itself Itself not_node not_grows
      (exists_put question untrue Denied denied_truths place body path level d1 d2 new level_is exists_grows leads
      (body_after question SqlNode.Not refl (λ x y. (s : Option Bool) × (x ≡ truth s) × (y ≡ truth (not3 s))) d2 d3 new (OfPlace question.filter body) AsTrue Denied not_node deny_grows true_denied
      (body_after question SqlNode.IsTrue refl (λ x y. (s : Option Bool) × (x ≡ truth s) × (y ≡ is_true s)) d3 d4 new (OfPlace question.filter body) (IsInForm Form.Keeps) AsTrue is_true_node true_grows asked_true b)))
      (λ world o is has.
      let t = of_over Quantifier.All world is.seen o has in
      let comes = all_is (AtMembers question.filter has.body has.tree world has.variable has.members) t.0 (truths_of Quantifier.All world is.seen o has) o (given_of Quantifier.All world is.seen o has) in
      let found = any_true (map untrue t.0) in (
        gives (boolean found),
        record { quantifier = Quantifier.All; whole = o; over = has; is_body = body_is question Quantifier.All place world o has body stops; us = t.0; truths = t.1; is = refl },
        λ x form. (truth (not3 (Some found)), (Some found, form, refl), not_truth found ∙ sym comes),
      ))

  -- which is a truth value
  pub over_truth : (quantifier : Quantifier) (world : World) (seen : IsAskedOf question world) (o : Outcome) → OverHas question.filter quantifier place world o → (b : Bool) × (o ≡ gives (boolean b))
  over_truth Quantifier.Any world seen o over = (
    any_true (of_over Quantifier.Any world seen o over).0,
    any_is (AtMembers question.filter over.body over.tree world over.variable over.members) (of_over Quantifier.Any world seen o over).0 (truths_of Quantifier.Any world seen o over) o (given_of Quantifier.Any world seen o over),
  )
  over_truth Quantifier.All world seen o over = (
    not (any_true (map untrue (of_over Quantifier.All world seen o over).0)),
    all_is (AtMembers question.filter over.body over.tree world over.variable over.members) (of_over Quantifier.All world seen o over).0 (truths_of Quantifier.All world seen o over) o (given_of Quantifier.All world seen o over),
  )
