-- `selection::kept::kept_dependent` meets its contract: by its kind a point has the dependents that are asked.
use Rattle.std.proofs.Common.{refl, ap, ◌∙◌}
use Rattle.grid.specs.Points.{dependents}
use Rattle.grid.proofs.ByKind.{edge_dependents, centre_dependents, centre_clear, sited_small}
use Rattle.selection.specs.Kept.{some}
use Rattle.selection.specs.Inner.{kept_at}
use Rattle.selection.proofs.kept.kept_dependent.Goals as goal

pub kept_crossed-requires : goal.kept_crossed-requires
kept_crossed-requires c = (c.requires.inside, (sited_small c.requires c.args.marks.now.grid.sound.small).1)

pub kept_beside-requires : goal.kept_beside-requires
kept_beside-requires c = centre_clear c.requires c.in-Rising.is

pub returns-in-Corner : goal.returns-in-Corner
unfolding dependents
returns-in-Corner c = rw (← c.requires.kinded, c.in-Corner.is) refl

pub returns-in-EastWest : goal.returns-in-EastWest
returns-in-EastWest c =
    let m = c.args.marks.now in c.kept_crossed.ensures ∙ ap (some (kept_at m.grid.m m.bytes.now)) (edge_dependents c.requires c.in-EastWest.is)

pub returns-in-Rising : goal.returns-in-Rising
returns-in-Rising c =
    let m = c.args.marks.now in c.kept_beside.ensures ∙ ap (some (kept_at m.grid.m m.bytes.now)) (centre_dependents c.requires c.in-Rising.is)
