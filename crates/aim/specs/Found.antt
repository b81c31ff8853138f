-- What the code finds: where the walk ended, or the first refusal. No rule rests on it. Definitions only.
use Rattle.std.specs.Prelude.{◌≡◌, Result, Ok, Err}
use Rattle.grid.specs.Refusal.{accepted, number}
use Rattle.grid.specs.declared.refusals.Refusal.{Refusal}
use Rattle.aim.specs.Aimed.{Handed, ended, refusal}
use Rattle.aim.specs.Inner.{placed}
use Rattle.aim.specs.declared.ground.Landing.{Landing}

-- nothing was turned down, and the walk over what was handed over ended here
pub record Lands (h : Handed) (e : Landing) : Type 0 where
  pub taken : refusal h ≡ accepted
  pub size : e.grid.m ≡ h.m
  pub marks : e.marks.now ≡ h.marks
  pub heights : e.heights.now ≡ h.heights
  pub end : e.end ≡ placed h.m (ended h)

abbrev pub Found : Handed → Result Landing Refusal → Type 0
Found h (Ok e) = Lands h e
Found h (Err r) = refusal h ≡ number r
