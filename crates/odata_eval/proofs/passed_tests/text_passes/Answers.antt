use Rattle.std.proofs.Common.{◌≡◌, false, nat_eq, refl, string_bytes, sym, ap, ◌∙◌, subst}
use Rattle.std.proofs.lemmas.Bool.{not-true}
use Rattle.std.specs.Cmp.Lexicographic.{other_text, pointwise}
use Rattle.std.specs.Str.{chars}
use Rattle.edm_values.specs.Val.{text}
use Rattle.edm_values.specs.declared.sieve.Sieve.{Sieve}
use Rattle.edm_values.proofs.SameTexts.{same_characters}
use Rattle.odata_eval.specs.TrueWhere.{Passes}
use Rattle.odata_eval.proofs.passed_tests.text_passes.Goals as goal

pub returns-in-BesidesText : goal.returns-in-BesidesText
returns-in-BesidesText c is =
    let s = c.args.text.now in
    let t = c.as_str-in-BesidesText.result.now in
    let differ : pointwise nat_eq s t ≡ false = not-true _ (sym c.ne.ensures ∙ is) in
    let bytes : string_bytes c.in-BesidesText.other ≡ t = sym c.as_str-in-BesidesText.ensures.value in
    subst (λ (v : Sieve). Passes v (text s)) (sym c.in-BesidesText.is)
    (s, refl, λ same. other_text s t (sym differ) (same_characters s t c.utf8.text c.as_str-in-BesidesText.utf8 (same ∙ ap chars bytes)))
