-- Height and plane look only at the marks of the four grid corners and of the midpoints met, and at the heights of the final triangle's
-- corners: where these are the same, so are the answers. The walk asks each midpoint as it meets it, and comes to no other corners.
use mathlib.Core.Path.{◌≡◌, refl, sym, ap, ◌∙◌}
use mathlib.Core.Bool.{Bool, true, false, cond}
use mathlib.Core.List.Memᴰ
use mathlib.Core.List.{List, [], ◌∷◌, ◌++◌, Memᴰ}
use mathlib.Core.Logic.{◌≢◌}
use Prim.Native.Nat.{ℕ, zero, suc, ◌*◌}
use native.Mathlib.Decide.{ℕ_discrete}
use lib.Dec.{leb}
use lib.ListN.{length}
use lib.IntN.{ℤ}
use Rattle.grid.specs.Grid.{side, at}
use Rattle.grid.specs.Mark.{good_mark, kept_mark}
use Rattle.grid.specs.Points.{is_corner}
use Rattle.grid.specs.Refusal.{accepted}
use Rattle.grid.specs.declared.points.Point.{Point}
use Rattle.grid.proofs.Members.{All}
use Rattle.survey.specs.Filled.{sample}
use Rattle.selection.specs.Marks.{mark_at}
use Rattle.grid.specs.Grid.{corners}
use Rattle.mesh.specs.Triangles.{Three}
use Rattle.mesh.specs.Closed.{every, good_at, kept_by}
use Rattle.mesh.proofs.Every.{every_same}
use Rattle.aim.specs.Walk.{Weighed, Under, under, start, half, cut_of, walk, met}
use Rattle.aim.specs.Aimed.{Handed, handed, started, ended, looked, corners_of, refusal, is_filled, as_written}
use Rattle.aim.specs.Aimed.{weighted, height_in, eastward, northward, ground_in, height_at, plane_at}
use Rattle.aim.specs.declared.GroundPlane.{GroundPlane}
use Rattle.aim.proofs.Shares.{by_reading}
use Rattle.aim.proofs.Weights.{first_of, second_of}
use Rattle.aim.proofs.Answered.{height_taken, plane_taken, height_refused, plane_refused_lem}

-- the same call with other marks, and with other heights
abbrev pub remarked : Handed → List ℕ → Handed
remarked h marks = handed marks h.heights h.m h.x h.y

abbrev pub resampled : Handed → List ℤ → Handed
resampled h heights = handed h.marks heights h.m h.x h.y

-- two calls answer the same where they have the refusal, the origin and the ground the same
alike : (g h : Handed) → refusal g ≡ refusal h →
    is_filled g.m g.marks (ended g).triangle ≡ is_filled h.m h.marks (ended h).triangle →
    ground_in g.m g.heights (ended g) ≡ ground_in h.m h.heights (ended h) → (height_at g ≡ height_at h) × (plane_at g ≡ plane_at h)
unfolding ground_in
alike g h number origin ground = by (ℕ_discrete (refusal h) accepted)
  where
    by : Dec (refusal h ≡ accepted) → (height_at g ≡ height_at h) × (plane_at g ≡ plane_at h)
    by (yes ok) =
        let height : height_in g.m g.heights (ended g).triangle ≡ height_in h.m h.heights (ended h).triangle =
        ap (λ (p : GroundPlane). p.height) ground
        in (
          height_taken g (number ∙ ok) ∙ rw (origin, height) (sym (height_taken h ok)),
          plane_taken g (number ∙ ok) ∙ rw ground (sym (plane_taken h ok)),
        )
    by (no not_ok) =
        let turned : refusal g ≢ accepted = λ e. not_ok (sym number ∙ e) in (
          height_refused g turned ∙ rw number (sym (height_refused h not_ok)),
          plane_refused_lem g turned ∙ rw number (sym (plane_refused_lem h not_ok)),
        )

-- the walk by another set that agrees at the midpoints met is the same, and meets the same
same_walk : (kept other : Point → Bool) (k : ℕ) (t : Weighed) → ((p : Point) → Memᴰ p (met kept k t) → other p ≡ kept p) →
    (walk other k t ≡ walk kept k t) × (met other k t ≡ met kept k t)
unfolding walk met
same_walk kept other zero t same = (refl, refl)
same_walk kept other (suc k) t same =
    rw (same (cut_of t) (Memᴰ.head refl)) (by (kept (cut_of t)) (same_walk kept other k (half t)) (λ p i. same p (Memᴰ.tail i)))
  where
    by : (b : Bool) →
        (((p : Point) → Memᴰ p (met kept k (half t)) → other p ≡ kept p) →
        (walk other k (half t) ≡ walk kept k (half t)) × (met other k (half t) ≡ met kept k (half t))) →
        ((p : Point) → Memᴰ p (cond b (met kept k (half t)) []) → other p ≡ kept p) →
        (cond b (walk other k (half t)) (under t (suc k)) ≡ cond b (walk kept k (half t)) (under t (suc k))) ×
        (cut_of t ∷ cond b (met other k (half t)) [] ≡ cut_of t ∷ cond b (met kept k (half t)) [])
    by true on same = let r = on same in (r.0, ap (λ (l : List Point). cut_of t ∷ l) r.1)
    by false on same = (refl, refl)

-- what holds of a triangle's corners, and of the midpoints met from there, holds of the corners where the walk ends
module _ (P : Point → Type 0) where
  abbrev Of : Weighed → Type 0
  Of t = All P (corners_of t)

  either : (b : Bool) (t u : Weighed) → Of t → Of u → Of (cond b t u)
  either true t u c d = c
  either false t u c d = d

  halved : (t : Weighed) → Of t → P (cut_of t) → Of (half t)
  unfolding half
  halved t c p = either (leb t.wr t.wl) (first_of t) (second_of t) (c.0, (p, (c.1.0, tt))) (c.1.0, (p, (c.1.1.0, tt)))

  walked : (kept : Point → Bool) (k : ℕ) (t : Weighed) → Of t → ((p : Point) → Memᴰ p (met kept k t) → P p) →
      Of (walk kept k t).triangle
  unfolding walk met
  walked kept zero t c on = c
  walked kept (suc k) t c on =
      by (kept (cut_of t)) (walked kept k (half t) (halved t c (on (cut_of t) (Memᴰ.head refl)))) (λ p i. on p (Memᴰ.tail i))
    where
      by : (b : Bool) → (((p : Point) → Memᴰ p (met kept k (half t)) → P p) → Of (walk kept k (half t)).triangle) →
          ((p : Point) → Memᴰ p (cond b (met kept k (half t)) []) → P p) →
          Of (cond b (walk kept k (half t)) (under t (suc k))).triangle
      by true further on = further on
      by false further on = c

module _ (h : Handed) where
  -- so each corner where it ends is one whose mark is looked at
  looked_corners : All (λ p. Memᴰ p (looked h)) (corners_of (ended h).triangle)
  unfolding looked ended start
  looked_corners =
      let seen : Point → Type 0 = λ p. Memᴰ p (looked h) in
      let n = side h.m in
      let sw : seen (at 0 0) = Memᴰ.head refl in
      let se : seen (at n 0) = Memᴰ.tail (Memᴰ.head refl) in
      let nw : seen (at 0 n) = Memᴰ.tail (Memᴰ.tail (Memᴰ.head refl)) in
      let ne : seen (at n n) = Memᴰ.tail (Memᴰ.tail (Memᴰ.tail (Memᴰ.head refl))) in
      walked seen (kept_by h.m h.marks) (2 * h.m) (started h)
      (either seen (leb h.y h.x) _ _ (sw, (se, (ne, tt))) (ne, (nw, (sw, tt))))
      (λ p i. Memᴰ.append_right (corners h.m) i)

  -- other marks, which agree with the call's where it looks
  module _ (marks : List ℕ) (long : length marks ≡ length h.marks)
      (same : (p : Point) → Memᴰ p (looked h) → mark_at h.m marks p ≡ mark_at h.m h.marks p) where
    same_met : (ended (remarked h marks) ≡ ended h) × (looked (remarked h marks) ≡ looked h)
    unfolding looked ended
    same_met =
        let r =
        same_walk (kept_by h.m h.marks) (kept_by h.m marks) (2 * h.m) (started h)
        (λ p i. ap kept_mark (same p (Memᴰ.append_right (corners h.m) i)))
        in
        (r.0, ap (λ (l : List Point). corners h.m ++ l) r.1)

    -- the refusal, and whether a corner that weighs was filled
    same_good : every (good_at h.m marks) (looked h) ≡ every (good_at h.m h.marks) (looked h)
    same_good = every_same (good_at h.m marks) (good_at h.m h.marks) (looked h) (λ p i. ap (good_mark (is_corner h.m p)) (same p i))

    same_refusal : refusal (remarked h marks) ≡ refusal h
    unfolding refusal
    same_refusal = rw (long, same_met.0, same_met.1, same_good)

    same_filled : is_filled h.m marks (ended h).triangle ≡ is_filled h.m h.marks (ended h).triangle
    unfolding is_filled
    same_filled =
        let c = looked_corners in
        let t = (ended h).triangle in
        rw (same t.l c.0, same t.a c.1.0, same t.r c.1.1.0)

    pub same_answers : (height_at (remarked h marks) ≡ height_at h) × (plane_at (remarked h marks) ≡ plane_at h)
    same_answers =
        alike (remarked h marks) h same_refusal (rw (same_met.0, same_filled))
        (ap (λ (u : Under). ground_in h.m h.heights u) same_met.0)

module _ (h : Handed) (heights : List ℤ) where
  -- a point's height is the same; a triangle's slopes are
  abbrev Same : Point → Type 0
  Same p = sample h.m heights p ≡ sample h.m h.heights p

  abbrev Slopes : Three → Type 0
  Slopes t = (eastward h.m heights t ≡ eastward h.m h.heights t) × (northward h.m heights t ≡ northward h.m h.heights t)

  -- other heights, which agree with the call's at the final triangle's corners
  module _ (long : length heights ≡ length h.heights) (same : (p : Point) → Memᴰ p (corners_of (ended h).triangle) → Same p) where
    corners_same : let t = (ended h).triangle in Same t.l × Same t.a × Same t.r
    corners_same = (
      same _ (Memᴰ.head refl),
      same _ (Memᴰ.tail (Memᴰ.head refl)),
      same _ (Memᴰ.tail (Memᴰ.tail (Memᴰ.head refl))),
    )

    number_same : refusal (resampled h heights) ≡ refusal h
    unfolding refusal ended looked
    number_same = rw (long, corners_same.0, corners_same.1, corners_same.2)

    height_same : height_in h.m heights (ended h).triangle ≡ height_in h.m h.heights (ended h).triangle
    unfolding height_in weighted
    height_same = rw (corners_same.0, corners_same.1, corners_same.2)

    slopes_same : Slopes (as_written (ended h))
    unfolding eastward northward
    slopes_same =
        let t = (ended h).triangle in
        by_reading Slopes (ended h).left t.l t.a t.r
        (λ e. rw (corners_same.0, corners_same.1, corners_same.2) (refl, refl))
        (λ o. rw (corners_same.0, corners_same.1, corners_same.2) (refl, refl))

    ground_same : ground_in h.m heights (ended h) ≡ ground_in h.m h.heights (ended h)
    unfolding ground_in
    ground_same = rw (height_same, slopes_same.0, slopes_same.1)

    pub same_heights : (height_at (resampled h heights) ≡ height_at h) × (plane_at (resampled h heights) ≡ plane_at h)
    unfolding ended
    same_heights = alike (resampled h heights) h number_same refl ground_same
