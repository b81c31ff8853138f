-- What functions inside the crate promise each other. No rule rests on it. Definitions only.
use Rattle.std.specs.Prelude.{◌≡◌, List, ℕ, ◌<◌, length, get_or, ℤ, pos}
use Rattle.frame.specs.Frame.{height_at}

-- n entries, each the height at its own index
pub record Copied (input : List ℕ) (n : ℕ) (survey : List ℤ) : Type 0 where
  pub long : length survey ≡ n
  pub each : (i : ℕ) → i < n → get_or survey i (pos 0) ≡ height_at input i
