-- `mesh::good::good_marks` meets its contract: the grid corners and the runs between them are asked in turn.
use mathlib.Core.Path.{◌≡◌, sym, ◌∙◌}
use mathlib.Core.Bool.{◌&&◌}
use Prim.Native.Nat.{◌+◌}
use Rattle.mesh.proofs.Passing.{fails, passes}
use Rattle.mesh.proofs.Between.{nw, four, south, rows, north, run_told, in_parts}
use Rattle.mesh.proofs.Every.{slice}
use Rattle.mesh.proofs.good.good_marks.Goals as goal
use Rattle.mesh.proofs.good.good_marks.Goals.{then-corners_good, else-corners_good, then-inner_good, else-inner_good}

pub returns-then-inner_good-2 : goal.returns-then-inner_good-2
returns-then-inner_good-2 c =
    let g = c.args.g in
    let marks = c.args.marks.now in
    let first : c.if-corners_good.value ≡ (four g.m marks && south marks g.side) =
    elim c.if-corners_good.branch [
      | then-corners_good w ↦ passes c.corners_good.ensures w.if-corners_good.true (w.value-is ∙ run_told (slice 1 g.side marks) w.inner_good.ensures)
      | else-corners_good w ↦ w.value-is ∙ w.if-corners_good.false ∙ fails _ c.corners_good.ensures w.if-corners_good.false
    ] in
    let second : c.if-inner_good.value ≡ ((four g.m marks && south marks g.side) && rows marks g.side) =
    elim c.if-inner_good.branch [
      | then-inner_good w ↦ passes first w.if-inner_good.true (w.value-is ∙ run_told (slice (g.side + 1) (nw g.side) marks) w.inner_good-then-inner_good.ensures)
      | else-inner_good w ↦ w.value-is ∙ w.if-inner_good.false ∙ fails _ first w.if-inner_good.false
    ] in
    passes second c.if-inner_good-2.true (run_told (slice (nw g.side + 1) (nw g.side + g.side) marks) c.inner_good-then-inner_good-2.ensures) ∙ sym (in_parts g.m marks c.requires g.sound.sided)

pub returns-else-inner_good-2 : goal.returns-else-inner_good-2
returns-else-inner_good-2 c =
    let g = c.args.g in
    let marks = c.args.marks.now in
    let first : c.if-corners_good.value ≡ (four g.m marks && south marks g.side) =
    elim c.if-corners_good.branch [
      | then-corners_good w ↦ passes c.corners_good.ensures w.if-corners_good.true (w.value-is ∙ run_told (slice 1 g.side marks) w.inner_good.ensures)
      | else-corners_good w ↦ w.value-is ∙ w.if-corners_good.false ∙ fails _ c.corners_good.ensures w.if-corners_good.false
    ] in
    let second : c.if-inner_good.value ≡ ((four g.m marks && south marks g.side) && rows marks g.side) =
    elim c.if-inner_good.branch [
      | then-inner_good w ↦ passes first w.if-inner_good.true (w.value-is ∙ run_told (slice (g.side + 1) (nw g.side) marks) w.inner_good-then-inner_good.ensures)
      | else-inner_good w ↦ w.value-is ∙ w.if-inner_good.false ∙ fails _ first w.if-inner_good.false
    ] in
    c.if-inner_good-2.false ∙ fails (north marks g.side) second c.if-inner_good-2.false ∙ sym (in_parts g.m marks c.requires g.sound.sided)
