-- How far a sweep has come. No rule rests on it. Definitions only.
use Rattle.std.specs.Prelude.{ℕ, suc, ◌+◌, List}
use Rattle.grid.specs.Points.{units, rank}
use Rattle.grid.specs.declared.points.Point.{Point}
use Rattle.grid.specs.declared.points.Kind.{Kind}
use Rattle.selection.specs.Inner.{mark_over, Final, Swept, Ran, stride}
use Rattle.selection.specs.declared.sweep.Sweep.{Sweep}

-- the marks of all lower ranks, and of rank r those of the rows below b, are final
abbrev pub Settled : Sweep → ℕ → ℕ → List ℕ → Type 0
Settled w r b marks = Final w.grid.m (mark_over w.grid.m w.survey.now w.limit) (Swept w.grid.m r b) marks

-- as far as the row in which p lies, and past it
abbrev pub Before : Sweep → Point → List ℕ → Type 0
Before w p marks = Settled w (rank w.grid.m p) (units w.grid.m p).up marks

abbrev pub Past : Sweep → Point → List ℕ → Type 0
Past w p marks = Settled w (rank w.grid.m p) (suc (units w.grid.m p).up) marks

-- as far as the run of points of one kind that begins at p, and past it
abbrev pub RunTo : Sweep → Kind → Point → ℕ → List ℕ → Type 0
RunTo w k p c marks =
    Final w.grid.m (mark_over w.grid.m w.survey.now w.limit) (Ran w.grid.m (stride k) (rank w.grid.m p) (units w.grid.m p).up c 0) marks

abbrev pub BeforeRun : Sweep → Kind → Point → List ℕ → Type 0
BeforeRun w k p = RunTo w k p (units w.grid.m p).across

abbrev pub PastRun : Sweep → Kind → Point → List ℕ → Type 0
PastRun w k p = RunTo w k p ((units w.grid.m p).across + 2)
