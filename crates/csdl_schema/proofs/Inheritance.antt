-- What a type without faults inherits along its chain.
use Rattle.std.proofs.Common.{◌≡◌, ◌≢◌, ℕ, zero, suc, ◌+◌, ◌<◌, ◌≤◌, List, [], ◌∷◌, ◌++◌, length, map, filter, Option, Some, None, option_map, slice_get, Bool, true, false, cond, ◌||◌, is_eq, nat_eq, sum_by, refl, sym, ap, subst, ◌∙◌, arith, Less}
use Rattle.std.specs.List.{list_any, AllByRecursion}
use Rattle.std.specs.List.Sorted.{IsStrictlySortedBy}
use Rattle.std.specs.Ordering.{nat_cmp}
use Rattle.std.specs.Cmp.Lexicographic.{pointwise, slice_cmp}
use Rattle.std.proofs.lemmas.Bool.{false≢true}
use Rattle.std.proofs.lemmas.List.{length-append}
use Rattle.std.proofs.lemmas.List.Sums.{sum_by-cons}
use Rattle.std.proofs.lemmas.Map.Text.{is_eq-slice_cmp}
use Rattle.std.proofs.lemmas.Slice.Eq.{bytes_eq-Decides}
use Rattle.csdl_declarations.specs.DeclaredType.{PropertyDeclaration, TypeBody, DeclaredType, structured, enumeration, definition, IsBodyInOrder}
use Rattle.csdl_schema.specs.SchemaModel.{PropertyModel, type_called, base_properties, body_properties, type_properties, properties_within, HasDistinctNames}
use Rattle.csdl_schema.specs.Resolution.{property_of, base_of, base_of_body, body_model, type_model, schema_of}
use Rattle.csdl_schema.specs.BaseFaults.{onto, bases_within, own_properties, owns, names_again, base_limit}
use Rattle.csdl_schema.specs.private.Placed.{Finder, IsIndexOf, base_place}
use Rattle.csdl_schema.proofs.Placing.{IsBase, is_base, length-map}

-- ---- chains that end

module _ (ds : List DeclaredType) where
  -- a chain that ends within so many bases is the same with more
  pub settled : (k : ℕ) (t : DeclaredType) → length (bases_within k ds t) < k → bases_within k ds t ≡ bases_within (suc k) ds t
  settled zero t h = absurd (omega (arith, h))
  settled (suc k) t h = by (base_of ds t) h (λ u below. settled k u below)
    where
      by : (o : Option DeclaredType) → length (onto (bases_within k ds) o) < suc k
          → ((u : DeclaredType) → length (bases_within k ds u) < k → bases_within k ds u ≡ bases_within (suc k) ds u) → onto (bases_within k ds) o ≡ onto (bases_within (suc k) ds) o
      by None h further = refl
      by (Some u) h further =
          let below : length (bases_within k ds u) < k = omega (arith, h) in
          ap (λ us. u ∷ us) (further u below)

  abbrev pub one_more : (m : ℕ) (o : Option DeclaredType) → List DeclaredType
  one_more zero o = []
  one_more (suc m) o = onto (bases_within m ds) o

  pub stepped : (m : ℕ) (t : DeclaredType) → bases_within m ds t ≡ one_more m (base_of ds t)
  stepped zero t = refl
  stepped (suc m) t = refl

  -- and with as few as there are
  pub shortened : (k m : ℕ) (t : DeclaredType) → length (bases_within k ds t) < k → length (bases_within k ds t) ≤ m → bases_within m ds t ≡ bases_within k ds t
  shortened zero m t h within = absurd (omega (arith, h))
  shortened (suc k) m t h within = stepped m t ∙ by m (base_of ds t) h within (λ j u below few. shortened k j u below few)
    where
      by : (m : ℕ) (o : Option DeclaredType) → length (onto (bases_within k ds) o) < suc k → length (onto (bases_within k ds) o) ≤ m
          → ((j : ℕ) (u : DeclaredType) → length (bases_within k ds u) < k → length (bases_within k ds u) ≤ j → bases_within j ds u ≡ bases_within k ds u) → one_more m o ≡ onto (bases_within k ds) o
      by zero None h within further = refl
      by (suc m) None h within further = refl
      by zero (Some u) h within further = absurd (omega (arith, within))
      by (suc m) (Some u) h within further =
          let below : length (bases_within k ds u) < k = omega (arith, h) in
          let few : length (bases_within k ds u) ≤ m = omega (arith, within) in
          ap (λ us. u ∷ us) (further m u below few)

  -- ---- members of declared types

  abbrev pub own_models : DeclaredType → List PropertyModel
  own_models t = map (property_of ds) (own_properties t.body)

  abbrev pub if_based : (DeclaredType → List PropertyModel) → Option DeclaredType → List PropertyModel
  if_based inherited None = []
  if_based inherited (Some u) = inherited u

  -- the properties along a chain of that many types
  abbrev pub members : ℕ → DeclaredType → List PropertyModel
  members zero t = []
  members (suc k) t = if_based (members k) (base_of ds t) ++ own_models t

  pub members_settled : (k : ℕ) (t : DeclaredType) → length (bases_within k ds t) < k → members k t ≡ members (suc k) t
  members_settled zero t h = absurd (omega (arith, h))
  members_settled (suc k) t h = ap (λ inherited. inherited ++ own_models t) (by (base_of ds t) h (λ u below. members_settled k u below))
    where
      by : (o : Option DeclaredType) → length (onto (bases_within k ds) o) < suc k → ((u : DeclaredType) → length (bases_within k ds u) < k → members k u ≡ members (suc k) u)
          → if_based (members k) o ≡ if_based (members (suc k)) o
      by None h further = refl
      by (Some u) h further =
          let below : length (bases_within k ds u) < k = omega (arith, h) in
          further u below

  abbrev pub own_count : DeclaredType → ℕ
  own_count t = length (own_properties t.body)

  counted : (k : ℕ) (t : DeclaredType) → length (if_based (members k) (base_of ds t)) ≡ sum_by own_count (one_more k (base_of ds t)) → length (members (suc k) t) ≡ sum_by own_count (t ∷ bases_within k ds t)
  counted k t inherited =
      let same : bases_within k ds t ≡ one_more k (base_of ds t) = stepped k t in
      let sums : sum_by own_count (bases_within k ds t) ≡ sum_by own_count (one_more k (base_of ds t)) = ap (sum_by own_count) same in
      let own : length (own_models t) ≡ own_count t = length-map (property_of ds) (own_properties t.body) in
      let joined : length (members (suc k) t) ≡ length (if_based (members k) (base_of ds t)) + length (own_models t) = length-append (if_based (members k) (base_of ds t)) (own_models t) in
      let total : sum_by own_count (t ∷ bases_within k ds t) ≡ own_count t + sum_by own_count (bases_within k ds t) = sum_by-cons own_count t (bases_within k ds t) in
      omega (arith, sums, own, joined, total, inherited)

  -- how many there are
  pub members_count : (k : ℕ) (t : DeclaredType) → length (members (suc k) t) ≡ sum_by own_count (t ∷ bases_within k ds t)
  members_count zero t = counted zero t (by (base_of ds t))
    where
      by : (o : Option DeclaredType) → length (if_based (members zero) o) ≡ sum_by own_count (one_more zero o)
      by None = refl
      by (Some u) = refl
  members_count (suc k) t = counted (suc k) t (by (base_of ds t) (λ u. members_count k u))
    where
      by : (o : Option DeclaredType) → ((u : DeclaredType) → length (members (suc k) u) ≡ sum_by own_count (u ∷ bases_within k ds u)) → length (if_based (members (suc k)) o) ≡ sum_by own_count (one_more (suc k) o)
      by None further = refl
      by (Some u) further = further u

-- ---- members by name

above_there : (first : List ℕ) (ts : List DeclaredType) (n : ℕ) (t : DeclaredType) → AllByRecursion (λ y. slice_cmp nat_cmp first y ≡ Less) (map (λ u. u.name) ts) → slice_get ts n ≡ Some t
    → slice_cmp nat_cmp first t.name ≡ Less
above_there first [] n t all at = absurd (cc)
above_there first (u ∷ ts) zero t all at = let same : u ≡ t = cc in subst (λ v. slice_cmp nat_cmp first v.name ≡ Less) same all.0
above_there first (u ∷ ts) (suc n) t all at = above_there first ts n t all.1 at

unequal : (xs ys : List ℕ) → slice_cmp nat_cmp xs ys ≡ Less → pointwise nat_eq xs ys ≡ false
unequal xs ys below = sym (is_eq-slice_cmp xs ys) ∙ ap is_eq below

equal_itself : (xs : List ℕ) → pointwise nat_eq xs xs ≡ true
equal_itself xs = (bytes_eq-Decides xs xs).1 refl

-- in order, the type of a name is the one that has it
pub called : (ds ts : List DeclaredType) (n : ℕ) (t : DeclaredType) → IsStrictlySortedBy (slice_cmp nat_cmp) (map (λ u. u.name) ts) → slice_get ts n ≡ Some t
    → type_called (map (type_model ds) ts) t.name ≡ Some (type_model ds t)
unfolding IsStrictlySortedBy
called ds [] n t rising at = absurd (cc)
called ds (u ∷ ts) zero t rising at =
    let same : u ≡ t = cc in
    ap (λ v. type_called (map (type_model ds) (u ∷ ts)) v.name) (sym same) ∙ rw (equal_itself u.name) (ap (λ v. Some (type_model ds v)) same)
called ds (u ∷ ts) (suc n) t rising at = rw (unequal u.name t.name (above_there u.name ts n t rising.0 at)) (called ds ts n t rising.1 at)

module _ (ds : List DeclaredType) (find : Finder) (indexed : IsIndexOf ds find) (rising : IsStrictlySortedBy (slice_cmp nat_cmp) (map (λ t. t.name) ds)) where
  -- the properties of a type's name are its members
  pub members_named : (k n : ℕ) (t : DeclaredType) → slice_get ds n ≡ Some t → properties_within k (schema_of ds).types t.name ≡ members ds k t
  members_named zero n t at = refl
  members_named (suc k) n t at =
      ap (type_properties (properties_within k (schema_of ds).types)) (called ds ds n t rising at) ∙ by t.body (is_base ds find indexed t.body) (λ m u is. members_named k m u is)
    where
      from_base : (o : Option ℕ) (b : Option DeclaredType) → IsBase ds find indexed o b
          → ((m : ℕ) (u : DeclaredType) → slice_get ds m ≡ Some u → properties_within k (schema_of ds).types u.name ≡ members ds k u)
          → base_properties (properties_within k (schema_of ds).types) (option_map (λ u. u.name) b) ≡ if_based ds (members ds k) b
      from_base None None is further = refl
      from_base (Some m) (Some u) is further = further m u is
      from_base None (Some u) is further = absurd is
      from_base (Some m) None is further = absurd is

      by : (body : TypeBody) → IsBase ds find indexed (base_place ds find body) (base_of_body ds body)
          → ((m : ℕ) (u : DeclaredType) → slice_get ds m ≡ Some u → properties_within k (schema_of ds).types u.name ≡ members ds k u)
          → body_properties (properties_within k (schema_of ds).types) (body_model ds body) ≡ if_based ds (members ds k) (base_of_body ds body) ++ map (property_of ds) (own_properties body)
      by (structured is_entity base properties) is further =
          let body = structured is_entity base properties in
          ap (λ inherited. inherited ++ map (property_of ds) properties) (from_base (base_place ds find body) (base_of_body ds body) is further)
      by (enumeration e) is further = refl
      by (definition underlying) is further = refl

-- ---- distinct names

all_append : {X : Type 0} (P : X → Type 0) (xs ys : List X) → AllByRecursion P xs → AllByRecursion P ys → AllByRecursion P (xs ++ ys)
all_append P [] ys here there = there
all_append P (x ∷ xs) ys here there = (here.0, all_append P xs ys here.1 there)

all_then : {X : Type 0} (P Q : X → Type 0) → ((x : X) → P x → Q x) → (xs : List X) → AllByRecursion P xs → AllByRecursion Q xs
all_then P Q then [] all = tt
all_then P Q then (x ∷ xs) all = (then x all.0, all_then P Q then xs all.1)

neither : (a b : Bool) → (a || b) ≡ false → (a ≡ false) × (b ≡ false)
neither true b h = absurd (false≢true (sym h))
neither false b h = (refl, h)

pub none_kept : {X : Type 0} (test : X → Bool) (xs : List X) → filter test xs ≡ [] → AllByRecursion (λ x. test x ≡ false) xs
none_kept test [] none = tt
none_kept test (x ∷ xs) none = by (test x) refl none (λ later. none_kept test xs later)
  where
    by : (b : Bool) → test x ≡ b → cond b (x ∷ filter test xs) (filter test xs) ≡ [] → (filter test xs ≡ [] → AllByRecursion (λ y. test y ≡ false) xs) → AllByRecursion (λ y. test y ≡ false) (x ∷ xs)
    by true is none further = absurd (cc)
    by false is none further = (is, further none)

differs : (a b : List ℕ) → pointwise nat_eq a b ≡ false → a ≢ b
differs a b apart same = false≢true (sym apart ∙ ap (λ v. pointwise nat_eq a v) (sym same) ∙ equal_itself a)

-- in order, a name has one index
pub one_place : (ts : List DeclaredType) → IsStrictlySortedBy (slice_cmp nat_cmp) (map (λ u. u.name) ts) → (m n : ℕ) (t u : DeclaredType) → slice_get ts m ≡ Some t → slice_get ts n ≡ Some u
    → t.name ≡ u.name → m ≡ n
unfolding IsStrictlySortedBy
one_place [] rising m n t u at there same = absurd (cc)
one_place (v ∷ ts) rising zero zero t u at there same = refl
one_place (v ∷ ts) rising zero (suc n) t u at there same =
    let first : v ≡ t = cc in
    absurd (differs v.name u.name (unequal v.name u.name (above_there v.name ts n u rising.0 there)) (ap (λ w. w.name) first ∙ same))
one_place (v ∷ ts) rising (suc m) zero t u at there same =
    let first : v ≡ u = cc in
    absurd (differs v.name t.name (unequal v.name t.name (above_there v.name ts m t rising.0 at)) (ap (λ w. w.name) first ∙ sym same))
one_place (v ∷ ts) rising (suc m) (suc n) t u at there same = ap suc (one_place ts rising.1 m n t u at there same)

abbrev pub Apart : List PropertyModel → PropertyModel → Type 0
Apart ys x = AllByRecursion (λ q. q.name ≢ x.name) ys

pub distinct_append : (xs ys : List PropertyModel) → HasDistinctNames xs → HasDistinctNames ys → AllByRecursion (Apart ys) xs → HasDistinctNames (xs ++ ys)
distinct_append [] ys here there apart = there
distinct_append (x ∷ xs) ys here there apart = (all_append (λ q. q.name ≢ x.name) xs ys here.0 apart.0, distinct_append xs ys here.1 there apart.1)

module _ (ds : List DeclaredType) where
  above_apart : (p : PropertyDeclaration) (ps : List PropertyDeclaration) → AllByRecursion (λ y. slice_cmp nat_cmp p.name y ≡ Less) (map (λ q. q.name) ps)
      → Apart (map (property_of ds) ps) (property_of ds p)
  above_apart p [] above = tt
  above_apart p (q ∷ ps) above = ((λ same. differs p.name q.name (unequal p.name q.name above.0) (sym same)), above_apart p ps above.1)

  rising_distinct : (ps : List PropertyDeclaration) → IsStrictlySortedBy (slice_cmp nat_cmp) (map (λ p. p.name) ps) → HasDistinctNames (map (property_of ds) ps)
  unfolding IsStrictlySortedBy
  rising_distinct [] rising = tt
  rising_distinct (p ∷ ps) rising = (above_apart p ps rising.0, rising_distinct ps rising.1)

  pub own_distinct : (body : TypeBody) → IsBodyInOrder body → HasDistinctNames (map (property_of ds) (own_properties body))
  own_distinct (structured is_entity base properties) ordered = rising_distinct properties ordered
  own_distinct (enumeration e) ordered = tt
  own_distinct (definition underlying) ordered = tt

  -- names of which no type of a chain has one
  abbrev pub AreFree : List DeclaredType → List PropertyDeclaration → Type 0
  AreFree us ps = AllByRecursion (λ y. list_any (owns y) us ≡ false) (map (λ p. p.name) ps)

  apart_one : (x : PropertyDeclaration) (ps : List PropertyDeclaration) → AllByRecursion (λ y. pointwise nat_eq y x.name ≡ false) (map (λ p. p.name) ps)
      → Apart (map (property_of ds) ps) (property_of ds x)
  apart_one x [] all = tt
  apart_one x (p ∷ ps) all = (differs p.name x.name all.0, apart_one x ps all.1)

  apart_list : (xs ps : List PropertyDeclaration) → AllByRecursion (λ y. list_any (pointwise nat_eq y) (map (λ x. x.name) xs) ≡ false) (map (λ p. p.name) ps)
      → AllByRecursion (Apart (map (property_of ds) ps)) (map (property_of ds) xs)
  apart_list [] ps all = tt
  apart_list (x ∷ xs) ps all =
      let names = map (λ p. p.name) ps in
      let rest = map (λ y. y.name) xs in (
        apart_one x ps (all_then (λ y. (pointwise nat_eq y x.name || list_any (pointwise nat_eq y) rest) ≡ false) (λ y. pointwise nat_eq y x.name ≡ false) (λ y h. (neither (pointwise nat_eq y x.name) (list_any (pointwise nat_eq y) rest) h).0) names all),
        apart_list xs ps (all_then (λ y. (pointwise nat_eq y x.name || list_any (pointwise nat_eq y) rest) ≡ false) (λ y. list_any (pointwise nat_eq y) rest ≡ false) (λ y h. (neither (pointwise nat_eq y x.name) (list_any (pointwise nat_eq y) rest) h).1) names all),
      )

  pub apart_based : (k : ℕ) (o : Option DeclaredType) (ps : List PropertyDeclaration) → AreFree (one_more ds k o) ps → AllByRecursion (Apart (map (property_of ds) ps)) (if_based ds (members ds k) o)
  apart_based zero None ps free = tt
  apart_based zero (Some u) ps free = tt
  apart_based (suc k) None ps free = tt
  apart_based (suc k) (Some u) ps free =
      let names = map (λ p. p.name) ps in
      let above = bases_within k ds u in
      let own : AllByRecursion (λ y. owns y u ≡ false) names = all_then (λ y. (owns y u || list_any (owns y) above) ≡ false) (λ y. owns y u ≡ false) (λ y h. (neither (owns y u) (list_any (owns y) above) h).0) names free in
      let further : AreFree above ps = all_then (λ y. (owns y u || list_any (owns y) above) ≡ false) (λ y. list_any (owns y) above ≡ false) (λ y h. (neither (owns y u) (list_any (owns y) above) h).1) names free in
      all_append (Apart (map (property_of ds) ps)) (if_based ds (members ds k) (base_of ds u)) (own_models ds u)
      (apart_based k (base_of ds u) ps (subst (λ us. AreFree us ps) (stepped ds k u) further))
      (apart_list (own_properties u.body) ps own)

  -- what holds of each type without faults
  pub record IsFine (t : DeclaredType) : Type 0 where
    pub ended : length (bases_within (length ds) ds t) < length ds
    pub few : length (bases_within (length ds) ds t) ≤ base_limit
    pub again : names_again ds t ≡ []
    pub small : sum_by (own_count ds) (t ∷ bases_within (length ds) ds t) ≤ 1024
    pub ordered : IsBodyInOrder t.body
