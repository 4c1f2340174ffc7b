-- What has been appended to a text.
use Rattle.std.specs.Prelude.{◌≡◌, ℕ, List, ◌++◌}

-- after what was there before stands a text of this kind
pub record IsAppended (IsText : List ℕ → Type 0) (before after : List ℕ) : Type 0 where
  pub text : List ℕ
  pub is_text : IsText text
  pub whole : after ≡ before ++ text
