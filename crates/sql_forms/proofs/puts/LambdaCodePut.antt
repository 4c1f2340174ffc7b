-- What is put for `any` and `all` whose bodies may evaluate to a fault: the code of the first member that decides.
use Rattle.sql_forms.proofs.Common.{◌≡◌, ◌<◌, ◌+◌, ◌++◌, ◌∷◌, [], ℕ, suc, ℤ, pos, List, true, false, Option, Some, length, map, refl, sym, ap, subst, ◌∙◌, append-nil, arith, option_map, slice_get, AllByRecursion, slice_get-map, slice_get_within, IsMoment, Val, boolean, null, whole, slots_of, HasType, Quantifier, EndsOnceOnEntities, found_there, some_there, there_found, number_val, Outcome, gives, overflow, divides_by_zero, QuantifierGives, undecided_val, IsKept, IsCoded, code_of, AtEach, DecidedGives, decision_at, decisions, BothNumbers, OfNumber, Over, FirstGiven, GivesBits, NodeMeans, SqlMeans, Asked, Bound, BoundValue, bound_member, Term, no_terms, more_terms, nodes_of, term, number_of, Digit, SqlNode, Draft, Grows, AtMembers, IsStopAt, OfTree, OverHas, PutsBody, at_member, IsPathTo, IsTruthAt, IsAskedOf, IsWorldOf, OfPlace, Puts, Question, World, grows_then, puts_leaf, puts_two, world_before, path_says}
use Rattle.sql_outcomes.specs.private.ValueForms.{Itself}
use Rattle.sql_outcomes.proofs.nodes.Binding.{at_last as at_end}
use Rattle.sql_outcomes.proofs.outcomes.FaultConditions.{Is}
use Rattle.sql_forms.proofs.puts.BodyPut.{body_grows}
use Rattle.sql_outcomes.proofs.outcomes.CodeTables.{coded, Coded}
use Rattle.sql_outcomes.proofs.outcomes.Deciding.{IsDigit, decisions_from, first_from, least_first}
use Rattle.sql_outcomes.proofs.outcomes.FirstDecision.{AreOutcomes, Comes, decided, decides, first_decides, in_table, passes}
use Rattle.sql_outcomes.proofs.outcomes.LowBits.{bits_low}
use Rattle.sql_forms.proofs.puts.MemberOutcomes.{AreOutcomesAt, outcomes, body_is, inside_member}
use Rattle.sql_outcomes.proofs.nodes.MemberWorlds.{world_at_member}
use Rattle.sql_outcomes.proofs.outcomes.Operators.{coalesce_means, of_number}
use Rattle.sql_outcomes.proofs.nodes.WorldNodes.{truth_coded}
use Rattle.odata_checked_filter.proofs.flat.Places.{found_within}
use Rattle.std.proofs.lemmas.List.{length-map}

-- ---- codes and decisions

code_below : (o : Outcome) → code_of o < 8
code_below (gives (boolean false)) = omega arith
code_below _ = omega arith

decided_digit : (quantifier : Quantifier) (o : Outcome) → IsDigit (decided quantifier o)
decided_digit Quantifier.Any (gives (boolean true)) = omega arith
decided_digit Quantifier.Any overflow = omega arith
decided_digit Quantifier.Any divides_by_zero = omega arith
decided_digit Quantifier.All (gives (boolean false)) = omega arith
decided_digit Quantifier.All (gives null) = omega arith
decided_digit Quantifier.All overflow = omega arith
decided_digit Quantifier.All divides_by_zero = omega arith
decided_digit _ (gives _) = tt

digits : (quantifier : Quantifier) (ps : List Outcome) → AllByRecursion IsDigit (map (decided quantifier) ps)
digits quantifier [] = tt
digits quantifier (p ∷ ps) = (decided_digit quantifier p, digits quantifier ps)

module _ (question : Question) (ends : EndsOnceOnEntities) (is_moment : IsMoment question.now.civil question.now.offset_minutes) (quantifier : Quantifier) (place body : ℕ) (is_truth : IsTruthAt question.filter body) where
  module _ (world : World) (seen : IsAskedOf question world) (o : Outcome) (over : OverHas question.filter quantifier place world o) (is_body : over.body ≡ body) where
    abbrev At : ℕ → Outcome → Type 0
    At = AtMembers question.filter over.body over.tree world over.variable over.members

    -- ---- what the bodies evaluate to

    coded_at : (k : ℕ) (v : Val) (p : Outcome) → slice_get over.members k ≡ Some v → OfTree question.filter over.body over.tree (at_member world over.variable k v) p → IsCoded p
    coded_at k v p at_v has =
        let inside = inside_member question quantifier place world o over seen k v at_v in
        truth_coded question ends is_moment (at_member world over.variable k v) inside body is_truth p
        (subst (λ (n : ℕ). OfPlace question.filter n (at_member world over.variable k v) p) is_body (over.tree, has.0, has.1))

    -- ---- what they decide

    are_outcomes : (ps : List Outcome) → AreOutcomesAt At over.members ps → AreOutcomes quantifier At (map (decided quantifier) ps)
    are_outcomes ps at = record {
      inside = λ k p of_p.
          let v = some_there (λ (w : Val). OfTree question.filter over.body over.tree (at_member world over.variable k w) p) (slice_get over.members k) of_p in
          let below : k < length over.members = slice_get_within over.members k v.0 v.1.0 in
          let count : length ps ≡ length over.members = at.many in
          let q = found_within ps k (omega (arith, below, count)) in
          let also = found_there (λ (w : Val). OfTree question.filter over.body over.tree (at_member world over.variable k w) q.0) (slice_get over.members k) v.0 v.1.0 (at.each k q.0 q.1) in
          let one = over.each k v.0 v.1.0 in
          let same : q.0 ≡ p = one.only q.0 also ∙ sym (one.only p v.1.1) in
          slice_get-map (decided quantifier) ps k ∙ ap (λ (x : Option Outcome). option_map (decided quantifier) x) (q.1 ∙ ap (λ (x : Outcome). Some x) same);
      below = λ k x there. slice_get_within (map (decided quantifier) ps) k x there;
    }

    pub decision : (ps : List Outcome) → AreOutcomesAt At over.members ps → Comes quantifier (map (decided quantifier) ps) o
    decision ps at =
        first_decides quantifier At (map (decided quantifier) ps) (are_outcomes ps at) o
        (subst (λ (n : ℕ). QuantifierGives quantifier n At o) (sym (length-map ps (decided quantifier) ∙ at.many)) over.given)

  -- what is decided first, of which this comes
  record FirstHas (Goes : List Outcome → Outcome → Outcome → Type 0) (world : World) (x : Outcome) : Type 0 where
    o : Outcome
    over : OverHas question.filter quantifier place world o
    is_body : over.body ≡ body
    seen : IsAskedOf question world
    ps : List Outcome
    at : AreOutcomesAt (AtMembers question.filter over.body over.tree world over.variable over.members) over.members ps
    goes : Goes ps o x

  abbrev LeastGoes : List Outcome → Outcome → Outcome → Type 0
  LeastGoes ps o x = x ≡ gives (number_val (first_from 0 (map (decided quantifier) ps)))

  -- ---- the least of them

  module _ (path level : ℕ) (old middle deciding new : Draft) (level_is : level ≡ old.depth) (least_grows : Grows old middle (SqlNode.Least path level ∷ [])) (decided_grows : Grows middle deciding (SqlNode.Decided quantifier level ∷ []))
      (leads : IsPathTo question old (place + 1) path) (b : PutsBody question deciding new (OfPlace question.filter body) Coded) where
    abbrev decided_term : Term
    decided_term = term (SqlNode.Decided quantifier level) (more_terms b.put.t no_terms)

    all_grows : Grows old new (nodes_of (term (SqlNode.Least path level) (more_terms decided_term no_terms)))
    all_grows =
        subst (λ (ns : List SqlNode). Grows old new (SqlNode.Least path level ∷ ns)) (sym (append-nil (nodes_of decided_term)))
        (subst (λ (ns : List SqlNode). Grows old new (SqlNode.Least path level ∷ (SqlNode.Decided quantifier level ∷ ns))) (sym (append-nil (nodes_of b.put.t)))
        (grows_then old middle new (SqlNode.Least path level ∷ []) (SqlNode.Decided quantifier level ∷ nodes_of b.put.t) least_grows
        (grows_then middle deciding new (SqlNode.Decided quantifier level ∷ []) (nodes_of b.put.t) decided_grows (body_grows question deciding new (OfPlace question.filter body) Coded b))))

    module _ (world : World) (x : Outcome) (is : IsWorldOf question new world) (has : FirstHas LeastGoes world x) where
      before : IsWorldOf question old world
      before = world_before question old new (nodes_of (term (SqlNode.Least path level) (more_terms decided_term no_terms))) world all_grows is

      level_here : level ≡ length world.bound
      level_here = level_is ∙ sym before.depth

      bodies : (start : ℕ) (vs : List Val) (ps : List Outcome) → length ps ≡ length vs
          → ((k : ℕ) (v : Val) (p : Outcome) → slice_get vs k ≡ Some v → slice_get ps k ≡ Some p → IsCoded p × OfTree question.filter body has.over.tree (at_member world has.over.variable (start + k) v) p)
          → AllByRecursion (λ (v : Val). HasType (slots_of world.row.schema) has.over.variable.type_of v) vs → AllByRecursion (λ (v : Val). IsKept (slots_of world.row.schema) has.over.variable.type_of v) vs
          → AtEach (λ k v. SqlMeans world.asked (world.bound ++ bound_member k v ∷ []) decided_term) start vs (decisions_from start (map (decided quantifier) ps))
      bodies start [] [] many each typed kept = refl
      bodies start [] (p ∷ ps) many each typed kept = absurd (cc)
      bodies start (v ∷ vs) [] many each typed kept = absurd (cc)
      bodies start (v ∷ vs) (p ∷ ps) many each typed kept =
          let fewer : length ps ≡ length vs = cc in
          let no_more : start + 0 ≡ start = omega arith in
          let one = each 0 v p refl refl in
          let here : OfTree question.filter body has.over.tree (at_member world has.over.variable start v) p =
          subst (λ (k : ℕ). OfTree question.filter body has.over.tree (at_member world has.over.variable k v) p) no_more one.1 in
          let inside = world_at_member question new b.after b.ends world has.over.variable start v typed.0 kept.0 is in
          let m = b.put.says (at_member world has.over.variable start v) p inside (has.over.tree, here.0, here.1) in
          let at : slice_get (world.bound ++ bound_member start v ∷ []) level ≡ Some (bound_member start v) =
          ap (λ (n : ℕ). slice_get (world.bound ++ bound_member start v ∷ []) n) level_here ∙ at_end world.bound (bound_member start v) in (
            (
              coded p,
              subst (SqlMeans world.asked (world.bound ++ bound_member start v ∷ []) b.put.t) m.2 m.1,
              there_found (λ (c : BoundValue). DecidedGives quantifier c.place (coded p) (decision_at start (decided quantifier p))) (slice_get (world.bound ++ bound_member start v ∷ []) level) (bound_member start v) at
                  (there_found (λ (d : Option ℕ). decision_at start (decided quantifier p) ≡ decision_at start d) (slice_get (decisions quantifier) (code_of p)) (decided quantifier p) (in_table quantifier p one.0) refl),
            ),
            bodies (start + 1) vs ps fewer (λ k w q at_w at_q.
                let next : start + suc k ≡ start + 1 + k = omega arith in
                let further = each (suc k) w q at_w at_q in
                (further.0, subst (λ (n : ℕ). OfTree question.filter body has.over.tree (at_member world has.over.variable n w) q) next further.1)) typed.1 kept.1,
          )

      placed : (k : ℕ) (v : Val) (p : Outcome) → slice_get has.over.members k ≡ Some v → slice_get has.ps k ≡ Some p
          → IsCoded p × OfTree question.filter body has.over.tree (at_member world has.over.variable (0 + k) v) p
      placed k v p at_v at_p =
          let of_tree = found_there (λ (w : Val). OfTree question.filter has.over.body has.over.tree (at_member world has.over.variable k w) p) (slice_get has.over.members k) v at_v (has.at.each k p at_p) in
          let same : k ≡ 0 + k = omega arith in (
            coded_at world has.seen has.o has.over has.is_body k v p at_v of_tree,
            subst (λ (n : ℕ). OfTree question.filter body has.over.tree (at_member world has.over.variable n v) p) same
                (subst (λ (n : ℕ). OfTree question.filter n has.over.tree (at_member world has.over.variable k v) p) has.is_body of_tree),
          )

      means : NodeMeans world.asked world.bound (SqlNode.Least path level) (more_terms decided_term no_terms) (gives (number_val (first_from 0 (map (decided quantifier) has.ps))))
      means = (
        level_here,
        (
          has.over.collection,
          has.over.members,
          decisions_from 0 (map (decided quantifier) has.ps),
          path_says question old (place + 1) path leads world has.over.collection before has.over.has,
          has.over.are,
          bodies 0 has.over.members has.ps has.at.many placed has.over.typed has.over.kept,
          (first_from 0 (map (decided quantifier) has.ps), least_first 0 (map (decided quantifier) has.ps) (digits quantifier has.ps), refl),
        ),
      )

    least_put : Puts question old new (FirstHas LeastGoes) Itself
    least_put = record {
      t = term (SqlNode.Least path level) (more_terms decided_term no_terms);
      shaped = (refl, ((refl, (b.put.shaped, tt)), tt));
      grows = all_grows;
      says = λ world x is has. (gives (number_val (first_from 0 (map (decided quantifier) has.ps))), means world x is has, sym has.goes);
    }

  -- ---- its code, or the default

  abbrev bits_of : (ps : List Outcome) (o : Outcome) → Comes quantifier (map (decided quantifier) ps) o → Outcome
  bits_of ps o (decides k is) = coded o
  bits_of ps o (passes none is) = gives null

  abbrev BitsGoes : List Outcome → Outcome → Outcome → Type 0
  BitsGoes ps o x = (come : Comes quantifier (map (decided quantifier) ps) o) × (x ≡ bits_of ps o come)

  both_bits : (ps : List Outcome) (o : Outcome) (come : Comes quantifier (map (decided quantifier) ps) o)
      → BothNumbers (first_from 0 (map (decided quantifier) ps)) (Some (pos 7)) GivesBits (bits_of ps o come)
  both_bits ps o (decides k is) = subst (λ (m : Option ℤ). BothNumbers m (Some (pos 7)) GivesBits (coded o)) (sym is) (bits_low k (code_of o) (code_below o))
  both_bits ps o (passes none is) = subst (λ (m : Option ℤ). BothNumbers m (Some (pos 7)) GivesBits (gives null)) (sym none) refl

  first_given : (ps : List Outcome) (o : Outcome) (come : Comes quantifier (map (decided quantifier) ps) o) → (n : ℤ) → gives (whole n) ≡ coded (gives (undecided_val quantifier))
      → FirstGiven (bits_of ps o come) (gives (whole n)) (coded o)
  first_given ps o (decides k is) n n_is = refl
  first_given ps o (passes none is) n n_is = ap coded is ∙ sym n_is

  bits_node : (asked : Asked) (bound : Bound) (a c : Term) (x y z : Outcome) → SqlMeans asked bound a x → SqlMeans asked bound c y
      → (m : Option ℤ) × (n : Option ℤ) × (x ≡ gives (number_val m)) × (y ≡ gives (number_val n)) × BothNumbers m n GivesBits z → NodeMeans asked bound SqlNode.Bits (more_terms a (more_terms c no_terms)) z
  bits_node asked bound a c x y z first second op = (
    gives (number_val op.0),
    subst (SqlMeans asked bound a) op.2 first,
    of_number op.0 (λ m. Over (SqlMeans asked bound c) (OfNumber (λ n. BothNumbers m n GivesBits))) z
        (gives (number_val op.1), subst (SqlMeans asked bound c) op.3 second, of_number op.1 (λ n. BothNumbers op.0 n GivesBits) z op.4),
  )

  pub lambda_code_put : (path level : ℕ) (n : Digit) → gives (whole (number_of n)) ≡ coded (gives (undecided_val quantifier)) → (d0 d1 d2 d3 d4 d5 d6 new : Draft) → IsStopAt question.filter (place + 1) body → level ≡ d2.depth → Grows d0 d1 (SqlNode.Coalesce ∷ []) → Grows d1 d2 (SqlNode.Bits ∷ [])
      → Grows d2 d3 (SqlNode.Least path level ∷ []) → Grows d3 d4 (SqlNode.Decided quantifier level ∷ []) → IsPathTo question d2 (place + 1) path → PutsBody question d4 d5 (OfPlace question.filter body) Coded
      → Grows d5 d6 (SqlNode.Number Digit.Seven ∷ []) → Grows d6 new (SqlNode.Number n ∷ []) → Puts question d0 new (OverHas question.filter quantifier place) Coded
  lambda_code_put path level n n_is d0 d1 d2 d3 d4 d5 d6 new stops level_is coalesce_grows bits_grows least_grows decided_grows leads b seven_grows default_grows =
      puts_two question SqlNode.Coalesce refl FirstGiven d0 d1 d6 new (FirstHas BitsGoes) (Is (gives (whole (number_of n)))) (OverHas question.filter quantifier place) Itself Itself Coded
      (λ asked bound a c x y z first second given. coalesce_means asked bound a c x y z first second given) coalesce_grows bits
      (puts_leaf question (SqlNode.Number n) refl d6 new (Is (gives (whole (number_of n)))) Itself default_grows (λ world o is has. (gives (whole (number_of n)), refl, sym has)))
      (λ world o is has.
      let seen = is.seen in
      let ps = outcomes question quantifier place world o has in
      let come = decision world seen o has (body_is question quantifier place world o has body stops) ps.0 ps.1 in (
        bits_of ps.0 o come,
        gives (whole (number_of n)),
        record { o = o; over = has; is_body = body_is question quantifier place world o has body stops; seen = seen; ps = ps.0; at = ps.1; goes = (come, refl) },
        refl,
        λ x y one two. (
          coded o,
          subst (λ (p : Outcome). FirstGiven p y (coded o)) (sym one) (subst (λ (p : Outcome). FirstGiven (bits_of ps.0 o come) p (coded o)) (sym two) (first_given ps.0 o come (number_of n) n_is)),
          refl,
        ),
      ))
    where
      bits : Puts question d1 d6 (FirstHas BitsGoes) Itself
      bits =
          puts_two question SqlNode.Bits refl (λ x y z. (m : Option ℤ) × (n : Option ℤ) × (x ≡ gives (number_val m)) × (y ≡ gives (number_val n)) × BothNumbers m n GivesBits z) d1 d2 d5 d6
          (FirstHas LeastGoes) (Is (gives (whole (pos 7)))) (FirstHas BitsGoes) Itself Itself Itself bits_node bits_grows
          (least_put path level d2 d3 d4 d5 level_is least_grows decided_grows leads b)
          (puts_leaf question (SqlNode.Number Digit.Seven) refl d5 d6 (Is (gives (whole (pos 7)))) Itself seven_grows (λ world o is has. (gives (whole (pos 7)), refl, sym has)))
          (λ world o is has. (
            gives (number_val (first_from 0 (map (decided quantifier) has.ps))),
            gives (whole (pos 7)),
            record { o = has.o; over = has.over; is_body = has.is_body; seen = has.seen; ps = has.ps; at = has.at; goes = refl },
            refl,
            λ x y one two. (
              o,
              (
                first_from 0 (map (decided quantifier) has.ps),
                Some (pos 7),
                one,
                two,
                subst (λ (p : Outcome). BothNumbers (first_from 0 (map (decided quantifier) has.ps)) (Some (pos 7)) GivesBits p) (sym has.goes.1) (both_bits has.ps has.o has.goes.0),
              ),
              refl,
            ),
          ))
