-- Which way three points turn. Document 01, "Triangles": all are written so that they turn counter-clockwise. Definitions only.
use Rattle.std.specs.Prelude.{ℕ, ◌+◌, ◌*◌, ◌<◌}
use Rattle.grid.specs.declared.points.Point.{Point}

-- twice the signed area of (p, q, w), counter-clockwise positive, is the first of these whole numbers less the second
abbrev pub onward : Point → Point → Point → ℕ
onward p q w = q.x * w.y + p.x * q.y + p.y * w.x

abbrev pub backward : Point → Point → Point → ℕ
backward p q w = q.x * p.y + p.x * w.y + q.y * w.x

-- from p by q to w the turn is counter-clockwise: that area is above zero
abbrev pub CounterClockwise : Point → Point → Point → Type 0
CounterClockwise p q w = backward p q w < onward p q w
