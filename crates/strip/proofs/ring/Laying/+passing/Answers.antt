-- `strip::ring::Laying::pass` and `pass_halves` meet their contracts, by the number of cuts left: a triangle is taken as it stands, or what its first
-- half lays stands before what its second half does.
use mathlib.Core.Path.{sym, ap, ◌∙◌}
use native.Mathlib.Omega.{arith}
use Rattle.strip.specs.Inner.{pair, passages_of, first_half}
use Rattle.strip.specs.declared.ring.Passage.{Passage}
use Rattle.strip.proofs.CodePassing.{passed_uncut, passed_as, passed_halves, behind, some_left, second_passable}
use Rattle.strip.proofs.ring.Laying.+passing.Goals as goal

pub pass-returns-else-is_cut : goal.pass-returns-else-is_cut
pass-returns-else-is_cut t c = passed_uncut c.args.marks.now c.args.t.now (sym c.is_cut.ensures ∙ c.if-is_cut.false) c.take.ensures

pub pass_halves-pass-requires-2 : goal.pass_halves-pass-requires-2
pass_halves-pass-requires-2 t c =
    let marks = c.args.marks.now in
    let half = passed_as (ap (λ (t : Passage). passages_of marks t) (sym c.halves.ensures.0)) c.pass.ensures in (
      rw c.halves.ensures.1 (omega (arith, c.decreases, some_left marks c.args.t.now c.requires.1)),
      rw (c.halves.ensures.1, behind (passages_of marks (first_half c.args.t.now)) half)
          (second_passable marks c.args.t.now (pair c.args.self.now) c.requires.0 c.requires.1),
    )

pub pass_halves-returns : goal.pass_halves-returns
pass_halves-returns t c = passed_halves c.args.marks.now c.args.t.now c.requires.1 c.halves.ensures c.pass.ensures c.pass-2.ensures
