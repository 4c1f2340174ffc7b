-- What is put into an expansion, one thing after another.
use Rattle.std.proofs.Common.{◌≡◌, ◌⊎◌, List, [], ◌∷◌, ◌++◌, ℕ, Bool, true, false, ◌||◌, refl, sym, ◌∙◌, inl, inr}
use Rattle.std.specs.Cmp.Lexicographic.{bytes_decides, pointwise_decides}
use Rattle.csdl_schema.specs.ExpansionView.{KeepsPaths, LeadsTo, StepModel, paths_in}
use Rattle.csdl_schema.specs.PathSet.{PathSet, PropertyPath, is_path, with_path}
use Rattle.odata_signatures.specs.NeededPaths.{VariablePaths}
use Rattle.odata_signatures.specs.Typed.{Scope}
use Rattle.odata_checked_filter.specs.private.NeededPaths.{LeadThere, Puts}

-- nothing is put there
pub puts_nothing : (steps : List StepModel) → Puts steps steps (λ path. ⊥)
puts_nothing steps = record {
  has = λ path. ((λ in_set. inl in_set), (λ either. elim either [ inl in_set ↦ in_set | inr none ↦ absurd none ]));
  leads = λ path node leads. leads;
}

-- the same, said otherwise
pub puts_as : (old new : List StepModel) (P Q : PropertyPath → Type 0) → ((path : PropertyPath) → P path → Q path) → ((path : PropertyPath) → Q path → P path)
    → Puts old new P → Puts old new Q
puts_as old new P Q forth back puts = record {
  has = λ path. (
    (λ in_set. elim ((puts.has path).0 in_set) [ inl before ↦ inl before | inr here ↦ inr (forth path here) ]),
    (λ either. (puts.has path).1 (elim either [ inl before ↦ inl before | inr here ↦ inr (back path here) ])),
  );
  leads = puts.leads;
}

-- one thing, and then another
pub puts_both : (a b c : List StepModel) (P Q : PropertyPath → Type 0) → Puts a b P → Puts b c Q → Puts a c (λ path. P path ⊎ Q path)
puts_both a b c P Q first second = record {
  has = λ path. (
    (λ in_set. elim ((second.has path).0 in_set) [
      | inl between ↦ elim ((first.has path).0 between) [ inl before ↦ inl before | inr here ↦ inr (inl here) ]
      | inr here ↦ inr (inr here)
    ]),
    (λ either. elim either [
      | inl before ↦ (second.has path).1 (inl ((first.has path).1 (inl before)))
      | inr here ↦ elim here [ inl one ↦ (second.has path).1 (inl ((first.has path).1 (inr one))) | inr other ↦ (second.has path).1 (inr other) ]
    ]),
  );
  leads = λ path node leads. second.leads path node (first.leads path node leads);
}

-- the variables' paths lead where they did
pub lead_still : (old new : List StepModel) (scope : Scope) (paths : VariablePaths) (nodes : List ℕ) → ((path : PropertyPath) (node : ℕ) → LeadsTo old path node → LeadsTo new path node)
    → LeadThere old scope paths nodes → LeadThere new scope paths nodes
lead_still old new [] [] [] kept lead = tt
lead_still old new (v ∷ scope) (p ∷ paths) (n ∷ nodes) kept lead = (kept p n lead.0, lead_still old new scope paths nodes kept lead.1)
lead_still old new _ _ _ kept lead = absurd lead

-- ---- a step, and a mark

or_true : (a b : Bool) → (a || b) ≡ true → (a ≡ true) ⊎ (b ≡ true)
or_true true b is = inl refl
or_true false b is = inr is

true_or : (a b : Bool) → (a ≡ true) ⊎ (b ≡ true) → (a || b) ≡ true
true_or true b either = refl
true_or false b (inl is) = absurd (cc)
true_or false b (inr is) = is

-- a path with a last step is not the empty one
with_step : (paths : PathSet) (path : PropertyPath) (name : List ℕ) (asked : PropertyPath) → with_path paths (path ++ name ∷ []) asked ≡ (paths asked || is_path (path ++ name ∷ []) asked)
with_step paths [] name asked = refl
with_step paths (step ∷ path) name asked = refl

path_decides : (p q : PropertyPath) → (is_path p q ≡ true → p ≡ q) × (p ≡ q → is_path p q ≡ true)
path_decides = pointwise_decides bytes_decides

-- a step that is not marked
pub step_puts : (old new : List StepModel) → KeepsPaths old new → Puts old new (λ path. ⊥)
step_puts old new kept = record {
  has = λ path. ((λ in_set. inl (sym (kept.same path) ∙ in_set)), (λ either. elim either [ inl before ↦ kept.same path ∙ before | inr none ↦ absurd none ]));
  leads = kept.leads;
}

-- and one that is
pub mark_puts : (old mid new : List StepModel) (path : PropertyPath) (name : List ℕ) → KeepsPaths old mid
    → ((asked : PropertyPath) → paths_in new asked ≡ with_path (paths_in mid) (path ++ name ∷ []) asked)
    → ((asked : PropertyPath) (node : ℕ) → LeadsTo mid asked node → LeadsTo new asked node)
    → Puts old new (λ put. put ≡ path ++ name ∷ [])
mark_puts old mid new path name kept added leads = record {
  has = λ asked.
      let is : paths_in new asked ≡ (paths_in mid asked || is_path (path ++ name ∷ []) asked) = added asked ∙ with_step (paths_in mid) path name asked in (
        (λ in_set. elim (or_true (paths_in mid asked) (is_path (path ++ name ∷ []) asked) (sym is ∙ in_set)) [
          | inl before ↦ inl (sym (kept.same asked) ∙ before)
          | inr here ↦ inr (sym ((path_decides (path ++ name ∷ []) asked).0 here))
        ]),
        (λ either. is ∙ true_or (paths_in mid asked) (is_path (path ++ name ∷ []) asked) (elim either [
          | inl before ↦ inl (kept.same asked ∙ before)
          | inr here ↦ inr ((path_decides (path ++ name ∷ []) asked).1 (sym here))
        ])),
      );
  leads = λ asked node there. leads asked node (kept.leads asked node there);
}
