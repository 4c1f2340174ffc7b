use Rattle.std.proofs.Common.{◌≡◌, ℕ, List, pos, negsuc, refl, arith, length, subst, ap, ◌∙◌, sym, take}
use Rattle.std.proofs.lemmas.Int.{ints}
use Rattle.std.specs.Str.{chars}
use Rattle.odata_functions.specs.Texts.{IsPlaceOf}
use Rattle.odata_functions.proofs.texts.Searches.{front_slice}
use Rattle.odata_functions.proofs.text_search.index_of.Goals as goal

pub returns-in-Some : goal.returns-in-Some
returns-in-Some c =
    let count : c.count_of.result ≡ length (chars (take c.in-Some.place c.args.text.now)) =
    c.count_of.ensures ∙ ap (λ (l : List ℕ). length (chars l)) (c.range.ensures.value ∙ front_slice c.args.text.now c.in-Some.place) in (
      pos c.count_of.result,
      subst (λ (n : ℕ). IsPlaceOf (chars c.args.text.now) (chars c.args.part.now) (pos n)) (sym count) c.in-Some.ensures.is_place,
      c.as_int32.ensures,
    )

pub returns-in-None : goal.returns-in-None
returns-in-None c = (negsuc 0, (refl, λ has. c.in-None.ensures has), (refl, omega (arith, ints)))
