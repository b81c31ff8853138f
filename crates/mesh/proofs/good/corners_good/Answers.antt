-- `mesh::good::corners_good` meets its contract: each grid corner is asked in turn.
use mathlib.Core.Path.{◌≡◌, ap, ◌∙◌}
use mathlib.Core.Bool.{Bool, true}
use mathlib.Core.List.{List}
use native.Mathlib.Omega.{arith}
use Prim.Native.Nat.{ℕ}
use Rattle.std.proofs.Common.{rules}
use borrow.Author.Tests.{tests}
use Rattle.std.proofs.lemmas.Iterator.{YieldsList-from_slice}
use Rattle.std.proofs.lemmas.Iterator.Search.{all_from_yields_List}
use Rattle.grid.specs.Grid.{corners}
use Rattle.grid.specs.Mark.{good_mark}
use Rattle.grid.specs.declared.points.Point.{Point}
use Rattle.grid.proofs.Around.{same_point}
use Rattle.selection.specs.Marks.{mark_at}
use Rattle.mesh.proofs.good.corners_good.Goals as goal

-- the mark that stands at a point is good at a grid corner
abbrev good_there : ℕ → List ℕ → Point → Bool
good_there m marks p = good_mark true (mark_at m marks p)

pub returns : goal.returns
returns c =
    all_from_yields_List (good_there c.args.g.m c.args.marks.now) _ _ _ c.all.ensures.ran (YieldsList-from_slice (corners c.args.g.m) cc)
    (λ p good f k.
    -- the point that was asked about is the one that was given
    let asked : (q : Point) × (good ≡ good_there c.args.g.m c.args.marks.now q) = search (rules, tests) in
    let same : asked.0 ≡ p.now = same_point (omega arith) (omega arith) in
    (search (rules, tests), asked.1 ∙ ap (good_there c.args.g.m c.args.marks.now) same))
