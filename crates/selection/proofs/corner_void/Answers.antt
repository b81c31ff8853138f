-- `selection::corner_void` meets its contract: each of the four is looked at. A call tells of some point, and that point is the one it was given.
use Rattle.std.proofs.Common.{◌≡◌, rules, arith, ap, ◌∙◌}
use Rattle.std.specs.List.{list_any}
use Rattle.std.proofs.lemmas.Iterator.{YieldsList-from_slice}
use Rattle.std.proofs.lemmas.Iterator.Search.{any_from_yields_List}
use Rattle.grid.specs.Grid.{is_void}
use Rattle.grid.specs.declared.points.Point.{Point}
use Rattle.grid.proofs.Around.{same_point}
use Rattle.survey.specs.Filled.{sample}
use Rattle.selection.specs.Selected.{corner_void}
use Rattle.selection.proofs.corner_void.Goals as goal

pub returns : goal.returns
unfolding corner_void
returns c =
    let void = λ (p : Point). is_void (sample c.args.g.m c.args.survey.now p) in
    any_from_yields_List void _ _ _ c.any.ensures.ran (YieldsList-from_slice c.corners.result c.iter.ensures.rest)
    (λ x b q k.
    let looked : (p : Point) × (b ≡ void p) = search rules in
    (search rules, looked.1 ∙ ap void (same_point (omega arith) (omega arith))))
    ∙ ap (list_any void) c.corners.ensures
