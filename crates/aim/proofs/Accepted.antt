-- Each refusal number is given exactly in its own case, and none where nothing is turned down. So it is known what an answered call was handed. The
-- tests are asked in the order of the cases, so each case is what its test says where those before it say no; and the walk by
-- weights is the sentences' walk.
use mathlib.Core.Path.{◌≡◌, refl, sym, ◌∙◌}
use mathlib.Core.Bool.{Bool, true, false, cond, not, or-false, true≢false, and-eq-true_iff}
use mathlib.Core.List.Memᴰ
use mathlib.Core.Logic.{⊎_elim, ◌↔◌}
use Prim.Native.Nat.{ℕ, ◌*◌, ◌≤◌}
use native.Mathlib.Omega.{arith}
use lib.Dec.{eqb, ltb}
use lib.ListN.{length}
use borrow.Author.Tests.{lt-ltb, le-ltb, ltb-true, ltb-false, eq-eqb, eqb-true}
use Rattle.grid.specs.Grid.{largest, samples, in_quarters, is_void}
use Rattle.grid.specs.Refusal.{accepted, size_above, wrong_length, void_corner, point_beyond, bad_mark}
use Rattle.grid.specs.declared.points.Point.{Point}
use Rattle.survey.specs.Filled.{sample}
use Rattle.grid.specs.Grid.{corners}
use Rattle.selection.proofs.Corners.{corner_in, listed_corner}
use Rattle.mesh.specs.Closed.{every, good_at}
use Rattle.mesh.proofs.Every.{every_in, in_every}
use Rattle.mesh.proofs.Accepted.{refutes, refuted}
use Rattle.aim.specs.Aimed.{Handed, right_lengths, beyond, ended, looked, corner_void, refusal}
use Rattle.aim.specs.Rule.{Ends, queried, kept_of, Lengths, Within, Good, VoidCorner, Turned, size, lengths, point, mark, corner, nothing}
use Rattle.aim.proofs.Either.{neither, any}
use Rattle.aim.proofs.Passages.{Stops, stops, starting, meets, ends_only, meets_only, Lands}

true_by : (b : Bool) → ¬ (b ≡ false) → b ≡ true
true_by true n = refl
true_by false n = absurd (n refl)

module _ (h : Handed) where
  -- what each test says
  small : (ltb largest h.m ≡ false) ↔ (h.m ≤ largest)
  small = (ltb-false largest h.m, le-ltb largest h.m)

  pub long : (right_lengths h ≡ true) ↔ Lengths h
  long =
      let n = samples h.m in
      let both = and-eq-true_iff (eqb (length h.marks) n) (eqb (length h.heights) n) in (
        λ e. let r = both.0 e in record { marks = eqb-true (length h.marks) n r.0; heights = eqb-true (length h.heights) n r.1 },
        λ l. both.1 (eq-eqb (length h.marks) n l.marks, eq-eqb (length h.heights) n l.heights),
      )

  pub inside : (beyond h ≡ false) ↔ Within h
  inside =
      let n = in_quarters h.m in (
        λ e. let r = neither (ltb n h.x) (ltb n h.y) e in record { east = ltb-false n h.x r.0; north = ltb-false n h.y r.1 },
        λ w. rw (le-ltb n h.x w.east, le-ltb n h.y w.north),
      )

  good : Within h → (every (good_at h.m h.marks) (looked h) ≡ true) ↔ Good h
  unfolding looked
  good w =
      let first = starting h.m (kept_of h) (queried h) w.east w.north in (
        λ e.
            record {
              corners = λ p c. every_in (good_at h.m h.marks) (looked h) e (Memᴰ.append_left _ (corner_in h.m p c));
              midpoints = λ c k.
                  every_in (good_at h.m h.marks) (looked h) e
                  (Memᴰ.append_right (corners h.m) (meets_only h.m (kept_of h) (queried h) w.east w.north k));
            },
        λ g.
            in_every (good_at h.m h.marks) (looked h)
            (λ p i. ⊎_elim (λ j. g.corners p (listed_corner h.m p j)) (λ j. g.midpoints p (meets h.m (kept_of h) (queried h) (2 * h.m) 0 _ first p j))
            (Memᴰ.append_cases (corners h.m) i)),
      )

  void : (corner_void h ≡ true) ↔ VoidCorner h (ended h).triangle.l (ended h).triangle.a (ended h).triangle.r
  void =
      let at : Point → Bool = λ p. is_void (sample h.m h.heights p) in
      rw (or-false (at (ended h).triangle.r)) (any (at (ended h).triangle.l) (at (ended h).triangle.a) (at (ended h).triangle.r))

  -- where the walk ends
  pub end : Within h → Stops h.m (kept_of h) (queried h) (ended h)
  unfolding ended
  end w = stops h.m (kept_of h) (queried h) (2 * h.m) 0 _ (starting h.m (kept_of h) (queried h) w.east w.north)

  pub lands : Within h → {cuts : ℕ} {l a r : Point} → Ends h.m (kept_of h) (queried h) cuts l a r → Lands h.m (ended h) cuts l a r
  unfolding ended
  lands w e = ends_only h.m (kept_of h) (queried h) w.east w.north e

  -- of the triangle in which the walk ends
  void_here : Within h → {cuts : ℕ} {l a r : Point} → Ends h.m (kept_of h) (queried h) cuts l a r → (corner_void h ≡ true) ↔ VoidCorner h l a r
  void_here w e = let t = lands w e in rw (← t.left, ← t.apex, ← t.right) void

  -- the number that is given has its case
  pub turned : Turned h (refusal h)
  unfolding refusal
  turned =
      go (ltb largest h.m) refl (right_lengths h) refl (beyond h) refl (every (good_at h.m h.marks) (looked h)) refl (corner_void h) refl
    where
      go : (a : Bool) → ltb largest h.m ≡ a → (b : Bool) → right_lengths h ≡ b → (c : Bool) → beyond h ≡ c →
          (d : Bool) → every (good_at h.m h.marks) (looked h) ≡ d → (e : Bool) → corner_void h ≡ e →
          Turned h (cond a size_above (cond (not b) wrong_length (cond c point_beyond (cond (not d) bad_mark (cond e void_corner accepted)))))
      go true s b l c p d g e v = size (ltb-true largest h.m s)
      go false s false l c p d g e v = lengths (small.0 s) (refutes long l)
      go false s true l true p d g e v = point (small.0 s) (long.0 l) (λ w. true≢false (sym p ∙ inside.1 w))
      go false s true l false p false g e v = let w = inside.0 p in mark (small.0 s) (long.0 l) w (refutes (good w) g)
      go false s true l false p true g true v =
          let w = inside.0 p in corner (small.0 s) (long.0 l) w ((good w).0 g) (end w).ends (void.0 v)
      go false s true l false p true g false v =
          let w = inside.0 p in nothing (small.0 s) (long.0 l) w ((good w).0 g) (end w).ends (refutes void v)

  -- and a number that has its case is the one given
  pub turned_only : {n : ℕ} → Turned h n → n ≡ refusal h
  unfolding refusal
  turned_only (size s) = rw (lt-ltb largest h.m s)
  turned_only (lengths s l) = rw (small.1 s, refuted long l)
  turned_only (point s l p) = rw (small.1 s, long.1 l, true_by (beyond h) (λ e. p (inside.0 e)))
  turned_only (mark s l w g) = rw (small.1 s, long.1 l, inside.1 w, refuted (good w) g)
  turned_only (corner s l w g e v) = rw (small.1 s, long.1 l, inside.1 w, (good w).1 g, (void_here w e).1 v)
  turned_only (nothing s l w g e v) = rw (small.1 s, long.1 l, inside.1 w, (good w).1 g, refuted (void_here w e) v)

-- what an answered call was handed
pub record Accepted (h : Handed) : Type 0 where
  pub small : h.m ≤ largest
  pub long : Lengths h
  pub within : Within h
  pub good : Good h
  pub surveyed : corner_void h ≡ false

pub accepted_handed : (h : Handed) → refusal h ≡ accepted → Accepted h
accepted_handed h e = by (turned h) e
  where
    by : {n : ℕ} → Turned h n → n ≡ accepted → Accepted h
    by (size s) e = absurd (omega arith)
    by (lengths s l) e = absurd (omega arith)
    by (point s l p) e = absurd (omega arith)
    by (mark s l w g) e = absurd (omega arith)
    by (corner s l w g t v) e = absurd (omega arith)
    by (nothing s l w g t v) e = record { small = s; long = l; within = w; good = g; surveyed = refuted (void_here h w t) v }
