use Rattle.std.proofs.Common.{ℕ, ap, ◌∙◌}
use Rattle.collection_reader.specs.private.ValueName.{after_letter, ends_there, names_value}
use Rattle.collection_reader.proofs.value_name.names_value.Goals as goal

pub returns : goal.returns
unfolding names_value
returns c =
    let bytes = c.args.bytes.now in
    let first = c.after_quote-first.ensures in
    let v = c.after_letter-v.ensures ∙ ap (λ (k : ℕ). after_letter bytes k (record { letter = 118; high = 55; low = 54 })) first in
    let a = c.after_letter-a.ensures ∙ ap (λ (k : ℕ). after_letter bytes k (record { letter = 97; high = 54; low = 49 })) v in
    let l = c.after_letter-l.ensures ∙ ap (λ (k : ℕ). after_letter bytes k (record { letter = 108; high = 54; low = 99 })) a in
    let u = c.after_letter-u.ensures ∙ ap (λ (k : ℕ). after_letter bytes k (record { letter = 117; high = 55; low = 53 })) l in
    let e = c.after_letter-e.ensures ∙ ap (λ (k : ℕ). after_letter bytes k (record { letter = 101; high = 54; low = 53 })) u in
    c.ends_there.ensures ∙ ap (ends_there bytes) e
