-- What a grid's good marks keep, as functions inside this crate say it. No rule rests on it. Definitions only.
use Rattle.std.specs.Prelude.{Bool}
use Rattle.grid.specs.declared.points.Point.{Point}
use Rattle.mesh.specs.declared.good.GoodMarks.{GoodMarks}
use Rattle.mesh.specs.Closed.{kept_by}

-- the points that they keep
abbrev pub kept_in : GoodMarks → Point → Bool
kept_in v = kept_by v.grid.m v.bytes.now
