-- A piece of a text directly after another.
use Rattle.std.specs.Prelude.{◌≡◌, ℕ, List, ◌++◌}

-- a piece of one spelling, and directly after it a piece of another
pub record FollowedBy (First Second : List ℕ → Type 0) (bytes : List ℕ) : Type 0 where
  pub front : List ℕ
  pub back : List ℕ
  pub whole : bytes ≡ front ++ back
  pub is_front : First front
  pub is_back : Second back
