use Rattle.std.proofs.lemmas.Bool.{or_left}
use Rattle.odata_queries.proofs.Common.{◌≡◌, ◌∙◌, ◌==◌, ◌||◌, Bool, true, false, not, List, ℕ, ap, sym, list_all, name_of}
use Rattle.odata_queries.specs.Disguise.{hides_filter, shows_decoded, shows_filter}
use Rattle.odata_queries.proofs.readers.Skips.{escape-free, none-at}
use Rattle.odata_queries.proofs.disguise.hides_filter.Goals as goal

shown : (part name : List ℕ) → name ≡ name_of part → shows_filter name ≡ true → true ≡ hides_filter part
unfolding hides_filter
shown part name same shows =
    sym (or_left (shows_filter (name_of part) || shows_decoded false (name_of part)) (shows_decoded true (name_of part)) (or_left (shows_filter (name_of part)) (shows_decoded false (name_of part)) (ap shows_filter (sym same) ∙ shows)))

-- a name without escapes is not decoded
undecoded : (part name : List ℕ) → name ≡ name_of part → shows_filter name ≡ false → list_all (λ b. not (b == 37)) name ≡ true → false ≡ hides_filter part
undecoded part name same shows none = sym shows ∙ ap shows_filter same ∙ escape-free part (ap (list_all (λ b. not (b == 37))) (sym same) ∙ none)

either : (part name : List ℕ) (short long : Bool) → name ≡ name_of part → shows_filter name ≡ false → short ≡ shows_decoded false name → long ≡ shows_decoded true name → (short || long) ≡ hides_filter part
unfolding hides_filter
either part name short long same shows is_short is_long =
    ap (λ (b : Bool). b || long) (is_short ∙ ap (shows_decoded false) same)
    ∙ ap (λ (b : Bool). shows_decoded false (name_of part) || b) (is_long ∙ ap (shows_decoded true) same)
    ∙ ap (λ (b : Bool). (b || shows_decoded false (name_of part)) || shows_decoded true (name_of part)) (sym (ap shows_filter (sym same) ∙ shows))

pub returns-then-branch : goal.returns-then-branch
returns-then-branch c = shown c.args.part.now c.name_and_value.result.0.now c.name_and_value.ensures.name (sym (c.in_ok-shows_filter.ensures) ∙ c.if-branch.true)

pub returns-then-not-has_byte : goal.returns-then-not-has_byte
returns-then-not-has_byte c =
    undecoded c.args.part.now c.name_and_value.result.0.now c.name_and_value.ensures.name (sym (c.in_ok-shows_filter.ensures) ∙ c.if-branch.false)
    (none-at 37 c.name_and_value.result.0.now (sym c.has_byte.ensures ∙ c.if-not-has_byte.true))

pub returns-then-short : goal.returns-then-short
returns-then-short c =
    c.if-short.true
    ∙ sym (or_left c.in_ok-short.short c.in_ok-long.long c.if-short.true)
    ∙ either c.args.part.now c.name_and_value.result.0.now _ _ c.name_and_value.ensures.name (sym (c.in_ok-shows_filter.ensures) ∙ c.if-branch.false) c.in_ok-short.ensures c.in_ok-long.ensures

pub returns-else-short : goal.returns-else-short
returns-else-short c =
    ap (λ (b : Bool). b || c.in_ok-long.long) (sym c.if-short.false)
    ∙ either c.args.part.now c.name_and_value.result.0.now _ _ c.name_and_value.ensures.name (sym (c.in_ok-shows_filter.ensures) ∙ c.if-branch.false) c.in_ok-short.ensures c.in_ok-long.ensures
