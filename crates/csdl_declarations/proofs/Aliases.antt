-- Which aliases several schemas have, and which names are namespaces.
use Rattle.std.proofs.Common.{◌≡◌, ℕ, zero, suc, List, ◌∷◌, ◌+◌, Bool, true, false, Option, Some, None, Bor, option_map, is_some, cond, not, ◌&&◌, ◌||◌, arith, nat_eq, is_eq, refl, sym, ap, ◌∙◌, Ordering, Less, Equal, Greater}
use Rattle.std.specs.Ordering.{nat_cmp, match_ordering}
use Rattle.std.specs.Cmp.Lexicographic.{pointwise, slice_cmp}
use Rattle.std.proofs.lemmas.Map.Text.{is_eq-slice_cmp}
use Rattle.std.proofs.lemmas.Slice.Eq.{bytes_eq-Decides}
use Rattle.serde_json.specs.Data.{Data, Members, no_members, member, null, boolean, number, string, array, object}
use Rattle.serde_json.specs.Find.{get, get_member}
use Rattle.serde_json.specs.View.{view}
use Rattle.serde_json.specs.declared.value.Value.{Value}
use Rattle.csdl_declarations.specs.Members.{is_read_over, declared_among, declared_in}
use Rattle.csdl_declarations.specs.Faults.{is_namespace}
use Rattle.csdl_declarations.specs.private.DocumentView.{is_shared_count}

-- whether an alias is shared, from what is noted and how many more schemas have it
abbrev pub shared_after : Option Bool → ℕ → Option Bool
shared_after None n = is_shared_count n
shared_after (Some b) zero = Some b
shared_after (Some b) (suc n) = Some true

pub one_more : (o : Option Bool) (n : ℕ) → shared_after (Some (is_some o)) n ≡ shared_after o (suc n)
one_more None zero = refl
one_more None (suc n) = refl
one_more (Some b) zero = refl
one_more (Some b) (suc n) = refl

pub after_none : (o : Option Bool) → shared_after o zero ≡ o
after_none None = refl
after_none (Some b) = refl

-- ---- namespaces

by_test : (o : Ordering) (d : Data) (rest : Option Data) → is_some (match_ordering o rest (Some d) rest) ≡ (is_eq o || is_some rest)
by_test Less d rest = refl
by_test Equal d rest = refl
by_test Greater d rest = refl

none_and : (b : Bool) → (b && false) ≡ false
none_and true = refl
none_and false = refl

among : (name : List ℕ) (ms : Members) → is_namespace (declared_among ms) name ≡ (not (is_read_over name) && is_some (get_member name ms))
among name no_members = sym (none_and (not (is_read_over name)))
among name (member k d ms) =
    by (pointwise nat_eq name k) refl (is_read_over k) refl (among name ms)
    ∙ ap (λ v. not (is_read_over name) && v)
    (ap (λ v. v || is_some (get_member name ms)) (sym (is_eq-slice_cmp name k)) ∙ sym (by_test (slice_cmp nat_cmp name k) d (get_member name ms)))
  where
    rest : List (List ℕ × Data)
    rest = declared_among ms

    over_as : pointwise nat_eq name k ≡ true → is_read_over name ≡ is_read_over k
    over_as is = ap is_read_over ((bytes_eq-Decides name k).0 is)

    by : (b : Bool) → pointwise nat_eq name k ≡ b → (r : Bool) → is_read_over k ≡ r → is_namespace rest name ≡ (not (is_read_over name) && is_some (get_member name ms))
        → is_namespace (cond r rest ((k, d) ∷ rest)) name ≡ (not (is_read_over name) && (b || is_some (get_member name ms)))
    by true is true over later = later ∙ ap (λ v. not v && is_some (get_member name ms)) (over_as is ∙ over) ∙ ap (λ v. not v && true) (sym (over_as is ∙ over))
    by true is false over later = ap (λ v. v || is_namespace rest name) is ∙ ap (λ v. not v && true) (sym (over_as is ∙ over))
    by false is true over later = later
    by false is false over later = ap (λ v. v || is_namespace rest name) is ∙ later

-- a namespace is the name of a member that is not read over
pub is_namespace_in : (d : Data) (name : List ℕ) → is_namespace (declared_in d) name ≡ (not (is_read_over name) && is_some (get name d))
is_namespace_in null name = sym (none_and (not (is_read_over name)))
is_namespace_in (boolean b) name = sym (none_and (not (is_read_over name)))
is_namespace_in (number n) name = sym (none_and (not (is_read_over name)))
is_namespace_in (string s) name = sym (none_and (not (is_read_over name)))
is_namespace_in (array ds) name = sym (none_and (not (is_read_over name)))
is_namespace_in (object ms) name = among name ms

pub some_mapped : (o : Option (Bor Value)) → is_some o ≡ is_some (option_map (λ x. view x.now) o)
some_mapped None = refl
some_mapped (Some x) = refl

-- what was noted of an alias is that of an equal one
pub known_before : (noted : List ℕ → Option Bool) (alias asked : List ℕ) (is_known : Bool) → is_known ≡ is_some (noted alias)
    → cond (pointwise nat_eq alias asked) (Some is_known) (noted asked) ≡ cond (pointwise nat_eq alias asked) (Some (is_some (noted asked))) (noted asked)
known_before noted alias asked is_known known = by (pointwise nat_eq alias asked) refl
  where
    by : (b : Bool) → pointwise nat_eq alias asked ≡ b → cond b (Some is_known) (noted asked) ≡ cond b (Some (is_some (noted asked))) (noted asked)
    by true is = ap Some (known ∙ ap (λ n. is_some (noted n)) ((bytes_eq-Decides alias asked).0 is))
    by false is = refl

-- a further schema with an alias, and one without
pub noted_step : (b : Bool) (o : Option Bool) (n : ℕ) → shared_after (cond b (Some (is_some o)) o) n ≡ shared_after o (cond b 1 0 + n)
noted_step true o n =
    let more : suc n ≡ 1 + n = omega arith in
    one_more o n ∙ ap (shared_after o) more
noted_step false o n =
    let same : n ≡ 0 + n = omega arith in
    ap (shared_after o) same
