-- A triangle that agrees with the one in which the walk ends gives, by its own plane and its own corners that weigh in, what the height query
-- answers.
use mathlib.Core.Path.{◌≡◌, sym, ◌∙◌}
use mathlib.Core.Bool.{Bool, true, cond}
use mathlib.Core.Logic.{◌↔◌}
use Prim.Native.Nat.{◌≤◌}
use Rattle.grid.specs.Grid.{Inside, Height, largest, in_quarters}
use Rattle.grid.specs.Refusal.{accepted}
use Rattle.grid.specs.Mark.{filled_mark}
use Rattle.grid.specs.declared.points.Point.{Point}
use Rattle.grid.specs.Turn.{CounterClockwise}
use Rattle.grid.proofs.Cutting.{corners_inside}
use Rattle.grid.proofs.Turning.{counter_clockwise}
use Rattle.survey.specs.Filled.{sample}
use Rattle.selection.specs.Marks.{mark_at}
use Rattle.mesh.specs.Triangles.{Three}
use Rattle.aim.specs.Quotient.{format, Exactly}
use Rattle.aim.specs.Walk.{Weighed}
use Rattle.aim.specs.Aimed.{Handed, ended, refusal, weighted, eastward, northward, is_filled, height_in, surveyed, filled, said, height_at}
use Rattle.aim.specs.Rule.{queried, kept_of, Within, FilledCorner}
use Rattle.aim.specs.declared.HeightAnswer.{HeightAnswer}
use Rattle.aim.proofs.Answered.{height_taken}
use Rattle.aim.proofs.Bounds.{Known, height_fits}
use Rattle.aim.proofs.Exactness.{exactly}
use Rattle.aim.proofs.Grounds.{weighs, plane_here, weighing_here}
use Rattle.aim.proofs.Rule.{origin_filled, origin_surveyed}
use Rattle.aim.proofs.Shares.{by_reading}
use Rattle.surface.specs.Surface.{Gives}
use Rattle.surface.proofs.Agreement.{Agrees}
use Rattle.surface.proofs.Means.{same_height, same_weighing}

module _ (h : Handed) (within : Within h) (ok : refusal h ≡ accepted) (fits : h.m ≤ largest)
    (known : (p : Point) → Inside h.m p → Height (sample h.m h.heights p)) where
  abbrev end : Weighed
  end = (ended h).triangle

  exact : Exactly format (weighted h.m h.heights end) (in_quarters h.m) (height_in h.m h.heights end)
  unfolding height_in
  exact =
      let w = weighs h within in
      let i = corners_inside w.triangle in
      let at : (p : Point) → Inside h.m p → Known h.m h.heights p = λ p i. record { inside = i; height = known p i } in
      exactly format (weighted h.m h.heights end) (in_quarters h.m)
      (height_fits h.heights fits w
      (record { left = at end.l i.left; apex = at end.a i.top; right = at end.r i.right }))

  -- by the marks at the corners
  abbrev test : Point → Bool
  test p = filled_mark (mark_at h.m h.marks p)

  module _ {u : Three} (s : Agrees h.m (kept_of h) (queried h) u) where
    filled_same : (is_filled h.m h.marks end ≡ true) ↔ FilledCorner h u
    unfolding is_filled ended
    filled_same =
        let same = same_weighing test s.triangle (ended h).triangle s.same in
        let here = weighing_here s.weighs test in
        rw s.is (λ e. here.0 (same ∙ e), λ c. sym same ∙ here.1 c)

    same_whole : weighted h.m h.heights end ≡ weighted h.m h.heights s.triangle
    unfolding ended
    same_whole = sym (same_height h.m h.heights s.triangle (ended h).triangle s.same)

    turned : CounterClockwise u.first u.second u.third
    turned =
        let t = s.triangle in
        let both = counter_clockwise s.weighs.triangle in
        rw s.is (by_reading (λ v. CounterClockwise v.first v.second v.third) s.left t.l t.a t.r both.0 both.1)

    answered : Gives h u (cond (is_filled h.m h.marks end) filled surveyed) (height_in h.m h.heights end)
    answered =
        let is-filled = is_filled h.m h.marks end in
        record {
          turns = turned;
          z = weighted h.m h.heights s.triangle;
          e = eastward h.m h.heights u;
          n = northward h.m h.heights u;
          plane = rw s.is (plane_here s.weighs h.heights);
          exactly = rw same_whole at exact;
          is_filled = (λ o. filled_same.0 ((origin_filled is-filled).0 o), λ c. (origin_filled is-filled).1 (filled_same.1 c));
          is_surveyed = (
            λ o c. (origin_surveyed is-filled).0 o (filled_same.1 c),
            λ n. (origin_surveyed is-filled).1 (λ t. n (filled_same.0 t)),
          );
        }

    pub gives : (a : HeightAnswer) → said a ≡ height_at h → Gives h u (said a).origin (said a).height
    gives a e = rw (e ∙ height_taken h ok) answered
