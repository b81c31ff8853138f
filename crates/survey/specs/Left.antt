-- What a method leaves of a filling. No rule rests on it. Definitions only.
use Rattle.std.specs.Prelude.{◌≡◌}
use Rattle.survey.specs.Inner.{Swept}
use Rattle.survey.specs.declared.spacings.Filling.{Filling}

-- the grid and the lent heights are the same ones, and these were swept
pub record Leaves (before after : Filling) (there : Type 0) : Type 0 where
  pub grid : after.grid ≡ before.grid
  pub lent : after.heights.ghost_name ≡ before.heights.ghost_name
  pub swept : Swept before.grid.m before.heights.now after.heights.now there
