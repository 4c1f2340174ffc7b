-- The normal form of an expression is an expression: its tokens are those of the tree with its literals respelled.
use Rattle.std.proofs.Common.{◌≡◌, inl, inr, ℕ, zero, suc, ◌+◌, Bool, List, [], ◌∷◌, ◌++◌, take, IsTrue, codes, cond, count_by, arith, refl, sym, ◌∙◌, ap, subst}
use Rattle.std.specs.Str.{bytes_eq, str_to_ascii_lowercase}
use Rattle.std.proofs.lemmas.List.Sums.{sum_by-cons}
use Rattle.std.proofs.lemmas.Str.Ascii.{lowercase-lowercase}
use Rattle.odata_text.specs.LiteralSpelling.{IsLiteralSpelling}
use Rattle.odata_text.specs.Spelling.{Spells}
use Rattle.odata_text.specs.TokenModel.{TokenModel}
use Rattle.odata_text.specs.declared.token.TokenKind.{TokenKind}
use Rattle.odata_syntax.specs.declared.node.LiteralKind.{LiteralKind}
use Rattle.odata_syntax.specs.Front.{closes, opens}
use Rattle.odata_syntax.specs.Grammar.{Derives, DerivesFurther, DerivesItems, Level, base_level, derives_any_item, derives_binary, derives_call, derives_count, derives_group, derives_has, derives_in_list, derives_in_path, derives_it, derives_lambda, derives_literal, derives_member, derives_name, derives_negation, derives_not, function_name, looser, no_further, no_items, one_further, some_items}
use Rattle.odata_syntax.specs.Lexeme.{SpellsLiteral, SpellsWord, same_word}
use Rattle.odata_syntax.specs.NormalForm.{AreNormalForms, IsNormalForm, IsNormalShape, literal_token}
use Rattle.odata_syntax.specs.Parse.{IsExpression}
use Rattle.odata_text.specs.TokenSequence.{AreTextTokens}
use Rattle.odata_syntax.specs.Tree.{Shape, Tree, Trees, any_item, binary, call, count, has, in_list, in_path, it, lambda, literal, logical_not, member, name, negation, node, shape_of, start_of, stop_of}
use Rattle.odata_syntax.proofs.normal_forms.NormalTrees.{AreSpellings, start-kept, stop-kept}

-- Tokens with other spellings.

-- the same kind at the same place, spelled by it if the first is
pub record IsRespelled (t u : TokenModel) : Type 0 where
  pub kind : u.kind ≡ t.kind
  pub start : u.start ≡ t.start
  pub stop : u.stop ≡ t.stop
  pub spelled : Spells t.kind t.text → Spells u.kind u.text

pub data AreRespelled : List TokenModel → List TokenModel → Type 0 where
  respelled_none : AreRespelled [] []
  respelled_more : {t u : TokenModel} {ts us : List TokenModel} → IsRespelled t u → AreRespelled ts us → AreRespelled (t ∷ ts) (u ∷ us)

as_it_is : (t : TokenModel) → IsRespelled t t
as_it_is t = record { kind = refl; start = refl; stop = refl; spelled = λ spelled. spelled }

respelled-append : {ts us vs ws : List TokenModel} → AreRespelled ts us → AreRespelled vs ws → AreRespelled (ts ++ vs) (us ++ ws)
respelled-append respelled_none more = more
respelled-append (respelled_more first rest) more = respelled_more first (respelled-append rest more)

one_token : (t : TokenModel) {ts us : List TokenModel} → AreRespelled ts us → AreRespelled (t ∷ ts) (t ∷ us)
one_token t more = respelled_more (as_it_is t) more

last_token : (t : TokenModel) {ts us : List TokenModel} → AreRespelled ts us → AreRespelled (ts ++ (t ∷ [])) (us ++ (t ∷ []))
last_token t more = respelled-append more (one_token t respelled_none)

-- A literal's token.

pub lowered-again : (text : List ℕ) → str_to_ascii_lowercase (str_to_ascii_lowercase text) ≡ str_to_ascii_lowercase text
lowered-again [] = refl
lowered-again (b ∷ bs) = λ i. lowercase-lowercase b i ∷ lowered-again bs i

pub lower-word : (text word : List ℕ) → same_word (str_to_ascii_lowercase text) word ≡ same_word text word
lower-word text word = ap (λ (xs : List ℕ). bytes_eq xs (str_to_ascii_lowercase word)) (lowered-again text)

-- the token of a literal in another spelling
respelled_as : TokenModel → List ℕ → TokenModel
respelled_as t spelling = record { kind = t.kind; start = t.start; stop = t.stop; text = spelling }

respelled_word : (t : TokenModel) (word spelling : List ℕ) → spelling ≡ str_to_ascii_lowercase t.text → SpellsWord word t → SpellsWord word (respelled_as t spelling)
unfolding respelled_as
respelled_word t word spelling lowered is = record {
  of_kind = is.of_kind;
  spelled = subst IsTrue (sym (ap (λ (xs : List ℕ). same_word xs word) lowered ∙ lower-word t.text word)) is.spelled;
}

respelled_literal : (kind : LiteralKind) (t : TokenModel) (spelling : List ℕ) → IsLiteralSpelling (literal_token kind) t.text spelling → SpellsLiteral kind t → SpellsLiteral kind (respelled_as t spelling)
unfolding respelled_as
respelled_literal LiteralKind.Null t spelling given is = respelled_word t (codes "null") spelling given.is is
respelled_literal LiteralKind.Bool t spelling given (inl is) = inl (respelled_word t (codes "true") spelling given.is is)
respelled_literal LiteralKind.Bool t spelling given (inr is) = inr (respelled_word t (codes "false") spelling given.is is)
respelled_literal LiteralKind.Int t spelling given is = record { of_kind = is.of_kind }
respelled_literal LiteralKind.Date t spelling given is = record { of_kind = is.of_kind }
respelled_literal LiteralKind.Moment t spelling given is = record { of_kind = is.of_kind }
respelled_literal LiteralKind.Guid t spelling given is = record { of_kind = is.of_kind }
respelled_literal LiteralKind.Str t spelling given is = record { of_kind = is.of_kind }
respelled_literal LiteralKind.EnumLit t spelling given is = record { of_kind = is.of_kind }

pub kind_of_literal : (kind : LiteralKind) (t : TokenModel) → SpellsLiteral kind t → t.kind ≡ literal_token kind
kind_of_literal LiteralKind.Null t is = is.of_kind
kind_of_literal LiteralKind.Bool t (inl is) = is.of_kind
kind_of_literal LiteralKind.Bool t (inr is) = is.of_kind
kind_of_literal LiteralKind.Int t is = is.of_kind
kind_of_literal LiteralKind.Date t is = is.of_kind
kind_of_literal LiteralKind.Moment t is = is.of_kind
kind_of_literal LiteralKind.Guid t is = is.of_kind
kind_of_literal LiteralKind.Str t is = is.of_kind
kind_of_literal LiteralKind.EnumLit t is = is.of_kind

respelled_token : AreSpellings → (kind : LiteralKind) (t : TokenModel) (spelling : List ℕ) → IsLiteralSpelling (literal_token kind) t.text spelling → SpellsLiteral kind t → IsRespelled t (respelled_as t spelling)
unfolding respelled_as
respelled_token law kind t spelling given is =
    let same = kind_of_literal kind t is in
    record {
      kind = refl;
      start = refl;
      stop = refl;
      spelled = λ spelled. subst (λ (k : TokenKind). Spells k spelling) (sym same) (law.spelled (literal_token kind) t.text spelling (subst (λ (k : TokenKind). Spells k t.text) same spelled) given);
    }

-- Trees.

-- tokens with other spellings derive the normal form
pub record IsNormalDerived (level : Level) (ts : List TokenModel) (normal : Tree) : Type 0 where
  pub tokens : List TokenModel
  pub respelled : AreRespelled ts tokens
  pub derived : Derives level tokens normal

record AreNormalItems (ts : List TokenModel) (normal : Trees) : Type 0 where
  tokens : List TokenModel
  respelled : AreRespelled ts tokens
  derived : DerivesItems tokens normal

record AreNormalFurther (ts : List TokenModel) (normal : Trees) : Type 0 where
  tokens : List TokenModel
  respelled : AreRespelled ts tokens
  derived : DerivesFurther tokens normal

as_normal : {level : Level} {ts us : List TokenModel} {tree : Tree} (normal : Tree) → AreRespelled ts us → Derives level us tree → tree ≡ normal → IsNormalDerived level ts normal
as_normal {level} {ts} {us} {tree} normal respelled derived same = record { tokens = us; respelled = respelled; derived = subst (Derives level us) same derived }

placed : (normal : Tree) (start stop a b : ℕ) (shape other : Shape) → a ≡ start → b ≡ stop → normal ≡ node start stop other → other ≡ shape → node a b shape ≡ normal
placed normal start stop a b shape other starts stops same is = (λ i. node (starts i) (stops i) (sym is i)) ∙ sym same

-- a group's tree within it
ungrouped : (tree : Tree) (other : Shape) → IsNormalShape (shape_of tree) other → IsNormalForm tree (node (start_of tree) (stop_of tree) other)
ungrouped (node start stop shape) other is = (other, is, refl)

literal_derived : AreSpellings → (kind : LiteralKind) (t : TokenModel) (normal : Tree) (other : Shape) (spelling : List ℕ) → SpellsLiteral kind t → IsLiteralSpelling (literal_token kind) t.text spelling
    → other ≡ literal kind spelling → normal ≡ node t.start t.stop other → IsNormalDerived base_level (t ∷ []) normal
unfolding respelled_as
literal_derived law kind t normal other spelling is given same place =
    as_normal normal (respelled_more (respelled_token law kind t spelling given is) respelled_none)
    (derives_literal {t = respelled_as t spelling} (record { spelled = respelled_literal kind t spelling given is }))
    (placed normal t.start t.stop t.start t.stop (literal kind spelling) other refl refl place same)

mutual
  pub normal_derived : AreSpellings → {level : Level} {ts : List TokenModel} {tree : Tree} → Derives level ts tree → (normal : Tree) → IsNormalForm tree normal → IsNormalDerived level ts normal
  normal_derived law (looser d) normal is =
      let inner = normal_derived law d normal is in
      record { tokens = inner.tokens; respelled = inner.respelled; derived = looser inner.derived }
  normal_derived law (derives_binary {operator} {ls} {rs} {t} {left} {right} l o r) normal is =
      let a = normal_derived law l is.1.0 is.1.2 in
      let b = normal_derived law r is.1.1 is.1.3 in
      as_normal normal (respelled-append a.respelled (one_token t b.respelled)) (derives_binary a.derived o b.derived)
      (placed normal (start_of left) (stop_of right) (start_of is.1.0) (stop_of is.1.1) (binary operator is.1.0 is.1.1) is.0 (start-kept left is.1.0 is.1.2) (stop-kept right is.1.1 is.1.3) is.2 is.1.4)
  normal_derived law (derives_negation {t} {ts} {operand} m d) normal is =
      let a = normal_derived law d is.1.0 is.1.1 in
      as_normal normal (one_token t a.respelled) (derives_negation m a.derived)
      (placed normal t.start (stop_of operand) t.start (stop_of is.1.0) (negation is.1.0) is.0 refl (stop-kept operand is.1.0 is.1.1) is.2 is.1.2)
  normal_derived law (derives_not {t} {ts} {operand} w d) normal is =
      let a = normal_derived law d is.1.0 is.1.1 in
      as_normal normal (one_token t a.respelled) (derives_not w a.derived)
      (placed normal t.start (stop_of operand) t.start (stop_of is.1.0) (logical_not is.1.0) is.0 refl (stop-kept operand is.1.0 is.1.1) is.2 is.1.2)
  normal_derived law (derives_has {ls} {rs} {t} {left} {right} l w r) normal is =
      let a = normal_derived law l is.1.0 is.1.2 in
      let b = normal_derived law r is.1.1 is.1.3 in
      as_normal normal (respelled-append a.respelled (one_token t b.respelled)) (derives_has a.derived w b.derived)
      (placed normal (start_of left) (stop_of right) (start_of is.1.0) (stop_of is.1.1) (has is.1.0 is.1.1) is.0 (start-kept left is.1.0 is.1.2) (stop-kept right is.1.1 is.1.3) is.2 is.1.4)
  normal_derived law (derives_in_list {ls} {is} {t} {first} {last} {left} {items} l w o d c) normal is' =
      let a = normal_derived law l is'.1.0 is'.1.2 in
      let b = normal_items law d is'.1.1 is'.1.3 in
      as_normal normal (respelled-append a.respelled (one_token t (one_token first (last_token last b.respelled)))) (derives_in_list a.derived w o b.derived c)
      (placed normal (start_of left) last.stop (start_of is'.1.0) last.stop (in_list is'.1.0 is'.1.1) is'.0 (start-kept left is'.1.0 is'.1.2) refl is'.2 is'.1.4)
  normal_derived law (derives_in_path {ls} {rs} {t} {left} {path} l w r) normal is =
      let a = normal_derived law l is.1.0 is.1.2 in
      let b = normal_derived law r is.1.1 is.1.3 in
      as_normal normal (respelled-append a.respelled (one_token t b.respelled)) (derives_in_path a.derived w b.derived)
      (placed normal (start_of left) (stop_of path) (start_of is.1.0) (stop_of is.1.1) (in_path is.1.0 is.1.1) is.0 (start-kept left is.1.0 is.1.2) (stop-kept path is.1.1 is.1.3) is.2 is.1.4)
  normal_derived law (derives_literal {kind} {t} l) normal is =
      literal_derived law kind t normal is.0 is.1.0 l.spelled is.1.1 is.1.2 is.2
  normal_derived law (derives_call {is} {t} {first} {last} {arguments} n o d c) normal is' =
      let b = normal_items law d is'.1.0 is'.1.1 in
      as_normal normal (one_token t (one_token first (last_token last b.respelled))) (derives_call n o b.derived c)
      (placed normal t.start last.stop t.start last.stop (call (function_name t) is'.1.0) is'.0 refl refl is'.2 is'.1.2)
  normal_derived law (derives_group {ts} {first} {last} {tree} o d c) normal is =
      let a = normal_derived law d (node (start_of tree) (stop_of tree) is.0) (ungrouped tree is.0 is.1) in
      as_normal normal (one_token first (last_token last a.respelled)) (derives_group o a.derived c) (sym is.2)
  normal_derived law (derives_count {bs} {slash} {t} {base} d s w) normal is =
      let a = normal_derived law d is.1.0 is.1.1 in
      as_normal normal (respelled-append a.respelled (one_token slash (one_token t respelled_none))) (derives_count a.derived s w)
      (placed normal (start_of base) t.stop (start_of is.1.0) t.stop (count is.1.0) is.0 (start-kept base is.1.0 is.1.1) refl is.2 is.1.2)
  normal_derived law (derives_any_item {bs} {slash} {t} {first} {last} {base} d s q o c) normal is =
      let a = normal_derived law d is.1.0 is.1.1 in
      as_normal normal (respelled-append a.respelled (one_token slash (one_token t (one_token first (one_token last respelled_none))))) (derives_any_item a.derived s q o c)
      (placed normal (start_of base) last.stop (start_of is.1.0) last.stop (any_item is.1.0) is.0 (start-kept base is.1.0 is.1.1) refl is.2 is.1.2)
  normal_derived law (derives_lambda {quantifier} {bs} {ts} {slash} {t} {first} {variable} {colon} {last} {base} {body} d s q o v k e c) normal is =
      let a = normal_derived law d is.1.0 is.1.2 in
      let b = normal_derived law e is.1.1 is.1.3 in
      as_normal normal
      (respelled-append a.respelled (one_token slash (one_token t (one_token first (one_token variable (one_token colon (last_token last b.respelled)))))))
      (derives_lambda a.derived s q o v k b.derived c)
      (placed normal (start_of base) last.stop (start_of is.1.0) last.stop (lambda quantifier is.1.0 variable.text is.1.1) is.0 (start-kept base is.1.0 is.1.2) refl is.2 is.1.4)
  normal_derived law (derives_it {t} w) normal is = as_normal normal (one_token t respelled_none) (derives_it w) (placed normal t.start t.stop t.start t.stop it is.0 refl refl is.2 is.1)
  normal_derived law (derives_name {t} n) normal is = as_normal normal (one_token t respelled_none) (derives_name n) (placed normal t.start t.stop t.start t.stop (name t.text) is.0 refl refl is.2 is.1)
  normal_derived law (derives_member {bs} {slash} {t} {base} d s w) normal is =
      let a = normal_derived law d is.1.0 is.1.1 in
      as_normal normal (respelled-append a.respelled (one_token slash (one_token t respelled_none))) (derives_member a.derived s w)
      (placed normal (start_of base) t.stop (start_of is.1.0) t.stop (member is.1.0 t.text) is.0 (start-kept base is.1.0 is.1.1) refl is.2 is.1.2)

  normal_items : AreSpellings → {ts : List TokenModel} {trees : Trees} → DerivesItems ts trees → (normal : Trees) → AreNormalForms trees normal → AreNormalItems ts normal
  normal_items law no_items normal is = record { tokens = []; respelled = respelled_none; derived = subst (DerivesItems []) (sym is) no_items }
  normal_items law (some_items {ts} {rs} {tree} {rest} d f) normal is =
      let a = normal_derived law d is.0 is.2 in
      let b = normal_further law f is.1 is.3 in
      record { tokens = a.tokens ++ b.tokens; respelled = respelled-append a.respelled b.respelled; derived = subst (DerivesItems (a.tokens ++ b.tokens)) (sym is.4) (some_items a.derived b.derived) }

  normal_further : AreSpellings → {ts : List TokenModel} {trees : Trees} → DerivesFurther ts trees → (normal : Trees) → AreNormalForms trees normal → AreNormalFurther ts normal
  normal_further law no_further normal is = record { tokens = []; respelled = respelled_none; derived = subst (DerivesFurther []) (sym is) no_further }
  normal_further law (one_further {comma} {ts} {rs} {tree} {rest} k d f) normal is =
      let a = normal_derived law d is.0 is.2 in
      let b = normal_further law f is.1 is.3 in
      record {
        tokens = comma ∷ (a.tokens ++ b.tokens);
        respelled = one_token comma (respelled-append a.respelled b.respelled);
        derived = subst (DerivesFurther (comma ∷ (a.tokens ++ b.tokens))) (sym is.4) (one_further k a.derived b.derived);
      }

-- Expressions.

respelled_text : {ts us : List TokenModel} → AreRespelled ts us → (from len : ℕ) → AreTextTokens from len ts → AreTextTokens from len us
respelled_text respelled_none from len of_text = of_text
respelled_text (respelled_more {t} {u} {ts} {us} first rest) from len of_text =
    let start = first.start in
    let stop = first.stop in
    let order = of_text.0.order in
    let solid = of_text.0.solid in (
      record { order = omega arith; solid = omega arith; spelled = first.spelled of_text.0.spelled },
      subst (λ (n : ℕ). AreTextTokens n len us) (sym stop) (respelled_text rest t.stop len of_text.1),
    )

counted : (test : TokenKind → Bool) {ts us : List TokenModel} → AreRespelled ts us → (n : ℕ) → count_by (λ (t : TokenModel). test t.kind) (take n us) ≡ count_by (λ (t : TokenModel). test t.kind) (take n ts)
counted test respelled_none n = refl
counted test (respelled_more {t} {u} {ts} {us} first rest) zero = refl
counted test (respelled_more {t} {u} {ts} {us} first rest) (suc n) =
    let one = λ (x : TokenModel). cond (test x.kind) 1 0 in
    sum_by-cons one u (take n us) ∙ (λ i. cond (test (first.kind i)) 1 0 + counted test rest n i) ∙ sym (sum_by-cons one t (take n ts))

pub normal_expression : AreSpellings → (tree normal : Tree) → IsExpression tree → IsNormalForm tree normal → IsExpression normal
normal_expression law tree normal is form =
    let made = normal_derived law is.parsed.derived normal form in
    record {
      tokens = made.tokens;
      length = is.length;
      of_text = respelled_text made.respelled 0 is.length is.of_text;
      parsed = record {
        derived = made.derived;
        shallow = record { within = λ n. let opened = counted opens made.respelled n in let closed = counted closes made.respelled n in let within = is.parsed.shallow.within n in omega arith };
      };
    }
