-- Whether a flag is set, from what `clap` read of it.
use Rattle.std.proofs.Common.{◌≡◌, ◌∙◌, Bool, true, false, Option, None, Some, inl, inr, refl, sym, ap, codes}
use Rattle.std.specs.Prelude.{unwrap_or}
use Rattle.std.specs.Option.{option_map_or}
use Rattle.std.specs.Str.{bytes_eq}
use Rattle.std.proofs.lemmas.Bool.{cases_Bool}
use Rattle.std.proofs.lemmas.Slice.Eq.{bytes_eq-Decides}
use Rattle.clap.specs.Words.{ReadsOne, Text, one_of, one_text, rows_of}
use Rattle.clap.specs.declared.parser.matches.Found.{Found}
use Rattle.clap.proofs.WalkLemmas.{one_text-rows}
use Rattle.std.specs.Str.Parse.{ParsesBool}

-- the text of a flag that is set
abbrev is_set : Text → Bool
is_set text = bytes_eq text (codes "true")

-- what `clap` reads of a flag's text, and that it has none
abbrev Reads : Type 0 → Text → Option Bool → Type 0
Reads E t read = ReadsOne {E = E} (λ s r. ParsesBool s r) t read

read_text : (E : Type 0) (t : Text) (read : Option Bool) → Reads E t read → unwrap_or read false ≡ is_set t
read_text E t (Some true) is = rw is refl
read_text E t (Some false) is = rw is refl
read_text E t None (e, (untrue, other)) = elim (cases_Bool (is_set t)) [
  | inl set ↦ absurd (untrue ((bytes_eq-Decides t (codes "true")).0 set))
  | inr unset ↦ sym unset
]

read_option : (E : Type 0) (o : Option Text) (read : Option Bool) → (o ≡ None → read ≡ None) → ((t : Text) → o ≡ Some t → Reads E t read)
    → unwrap_or read false ≡ option_map_or (λ text. is_set text) o false
read_option E None read none value = ap (λ r. unwrap_or r false) (none refl)
read_option E (Some t) read none value = read_text E t read (value t refl)

-- what was read of a flag that `filter` has
pub flag_read : (id : Text) (E : Type 0) (f : Found) (read : Option Bool) (set : Bool) → (one_text f id ≡ None → read ≡ None)
    → ((t : Text) → one_text f id ≡ Some t → ReadsOne {E = E} (λ s r. ParsesBool s r) t read)
    → set ≡ unwrap_or read false → set ≡ option_map_or (λ text. bytes_eq text (codes "true")) (one_of id (rows_of f)) false
flag_read id E f read set none value is =
    is ∙ read_option E (one_text f id) read none value ∙ ap (λ o. option_map_or (λ text. is_set text) o false) (one_text-rows f id)
