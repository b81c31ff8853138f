-- What the code finds: the first refusal, or where the walk ends. By the cases in their order; the walk itself tells of a mark that isn't good.
use mathlib.Core.Path.{◌≡◌, refl, sym, ap, ◌∙◌}
use mathlib.Core.Bool.{Bool, true, false, cond, not, ◌&&◌, and-false}
use mathlib.Core.List.{List}
use mathlib.Core.Logic.{◌⊎◌, ⊎_elim}
use Prim.Native.Nat.{ℕ, ◌*◌, ◌≤◌, ◌<◌}
use native.Mathlib.Omega.{arith}
use borrow.Author.Tests.{le-ltb}
use lib.ListN.{length}
use Rattle.std.specs.Prelude.{Ok, Err}
use Rattle.grid.specs.Grid.{largest, samples, in_quarters, at}
use Rattle.grid.specs.Mark.{good_mark}
use Rattle.grid.specs.Refusal.{accepted, number, wrong_length, void_corner, point_beyond, bad_mark}
use Rattle.grid.specs.Sizes.{size_answer}
use Rattle.grid.specs.declared.refusals.Refusal.{Refusal}
use Rattle.grid.specs.declared.refusals.Refusal.TheVariants.{VoidCorner, BadMark}
use Rattle.grid.specs.declared.sizes.Size.{Size}
use Rattle.grid.proofs.Sized.{given, refused}
use Rattle.selection.specs.Marks.{mark_at}
use Rattle.grid.specs.Grid.{corners}
use Rattle.selection.proofs.Corners.{listed_corner}
use Rattle.mesh.proofs.Every.{every_append, every_same}
use Rattle.mesh.specs.Closed.{every, good_at, kept_by}
use Rattle.aim.specs.Walk.{start, under, met}
use Rattle.aim.specs.Aimed.{Handed, started, ended, looked, refusal}
use Rattle.aim.specs.Rule.{Lengths, Within, size, lengths, point}
use Rattle.aim.specs.Inner.{placed, void_in, last_refusal, walk_from, Stands, Light, Stored, Footing}
use Rattle.aim.specs.declared.walk.Reached.{Reached}
use Rattle.aim.proofs.Weights.{started as weighed}
use Rattle.aim.proofs.Grounds.{weighs, cuts_left}
use Rattle.aim.proofs.Accepted.{long, inside, turned_only}
use Rattle.aim.proofs.Placing.{walk_placed, void_placed, stands_placed, light_placed}

-- what is known where none of the first three refusals holds
pub record Asked (h : Handed) : Type 0 where
  pub small : h.m ≤ largest
  pub lengths : Lengths h
  pub within : Within h

-- neither of the last two refusals was given
pub passed : (good isvoid : Bool) → Ok tt ≡ last_refusal good isvoid → (good ≡ true) × (isvoid ≡ false)
passed false isvoid e = let no : Ok tt ≡ Err BadMark = e in absurd cc
passed true true e = let no : Ok tt ≡ Err VoidCorner = e in absurd cc
passed true false e = (refl, refl)

-- the marks at the grid corners are good
abbrev pub corners_good : ℕ → List ℕ → Bool
corners_good m marks = every (λ p. good_mark true (mark_at m marks p)) (corners m)

-- and those of the midpoints that the walk meets
module _ (h : Handed) where
  abbrev met_good : Bool
  met_good = every (good_at h.m h.marks) (met (kept_by h.m h.marks) (2 * h.m) (started h))

  looked_good : every (good_at h.m h.marks) (looked h) ≡ (corners_good h.m h.marks && met_good)
  unfolding looked
  looked_good =
      let m = h.m in
      every_append (good_at m h.marks) (corners m) (met (kept_by m h.marks) (2 * m) (started h))
      ∙ ap (λ (b : Bool). b && met_good)
      (every_same (good_at m h.marks) (λ p. good_mark true (mark_at m h.marks p)) (corners m)
      (λ p i. ap (λ (b : Bool). good_mark b (mark_at m h.marks p)) (listed_corner m p i)))

  -- a size that is none
  pub size_refused : {r : Refusal} → Err r ≡ size_answer h.m → refusal h ≡ number r
  size_refused e = let r = refused h.m e in rw r.1 (sym (turned_only h (size r.0)))

  -- s is the size that was given
  module _ {s : Size} (e : Ok s ≡ size_answer h.m) where
    told_samples : s.samples ≡ samples h.m
    told_samples = ap (λ (s : Size). s.samples) (given h.m e).1

    pub length_refused :
        ¬ (length h.marks ≡ s.samples) ⊎ ((length h.marks ≡ s.samples) × ¬ (length h.heights ≡ s.samples)) → refusal h ≡ wrong_length
    length_refused other =
        sym (turned_only h (lengths (given h.m e).0
        (λ l. ⊎_elim (λ n. n (l.marks ∙ sym told_samples)) (λ n. n.1 (l.heights ∙ sym told_samples)) other)))

    -- and of which there are as many marks and heights; g is the grid
    module _ (marks : length h.marks ≡ s.samples) (heights : length h.heights ≡ s.samples) {m most : ℕ} (is : m ≡ h.m) (far : most ≡ in_quarters m) where
      told_lengths : Lengths h
      told_lengths = record { marks = marks ∙ told_samples; heights = heights ∙ told_samples }

      told_most : most ≡ in_quarters h.m
      told_most = far ∙ ap in_quarters is

      pub point_refused : (most < h.x) ⊎ ((h.x ≤ most) × (most < h.y)) → refusal h ≡ point_beyond
      point_refused out =
          sym (turned_only h (point (given h.m e).0 told_lengths
          (λ w. ⊎_elim (λ o. omega (arith, o, w.east, told_most)) (λ o. omega (arith, o.1, w.north, told_most)) out)))

      pub asked : h.x ≤ most → h.y ≤ most → Asked h
      asked east north = record {
        small = (given h.m e).0;
        lengths = told_lengths;
        within = record { east = omega (arith, east, told_most); north = omega (arith, north, told_most) };
      }

module _ {h : Handed} (a : Asked h) where
  -- where the walk ends
  abbrev to : Reached
  to = placed h.m (ended h)

  -- the last two refusals
  last : refusal h ≡ cond (not (corners_good h.m h.marks && met_good h)) bad_mark (cond (void_in h.heights to) void_corner accepted)
  unfolding refusal
  last =
      rw (le-ltb largest h.m a.small, (long h).1 a.lengths, (inside h).1 a.within, looked_good h, ← void_placed h.m h.heights (ended h)) refl

  pub corner_refused : corners_good h.m h.marks ≡ false → refusal h ≡ bad_mark
  corner_refused bad = last ∙ rw bad refl

  -- t is where the walk starts
  module _ {m : ℕ} (is : m ≡ h.m) {t : Reached} (starts : t ≡ placed m (under (start m (at h.x h.y)) (2 * m))) where
    told_start : t ≡ placed h.m (under (started h) (2 * h.m))
    told_start = starts ∙ ap (λ (m : ℕ). placed m (under (start m (at h.x h.y)) (2 * m))) is

    pub walks : Stands h.marks t × Light t
    walks =
        let u = under (started h) (2 * h.m) in
        let w = weighed h.m (at h.x h.y) a.within.east a.within.north in
        rw told_start (stands_placed h.m a.small a.lengths.marks u w, light_placed h.m a.small u w)

    walk_told : walk_from h.marks t.left t ≡ cond (met_good h) (Ok to) (Err BadMark)
    unfolding ended
    walk_told =
        rw told_start
        (walk_placed h.m h.marks (2 * h.m) (started h) (weighed h.m (at h.x h.y) a.within.east a.within.north))

    -- it meets a mark that is not good
    pub met_refused : {r : Refusal} → Err r ≡ walk_from h.marks t.left t → refusal h ≡ number r
    met_refused {r} e = by (met_good h) refl
      where
        by : (b : Bool) → met_good h ≡ b → refusal h ≡ number r
        by true g = let no : Err r ≡ Ok to = e ∙ walk_told ∙ rw g refl in cc
        by false g =
            let told : Err r ≡ Err BadMark = e ∙ walk_told ∙ rw g refl in
            let same : r ≡ BadMark = cc in
            rw same (last ∙ rw (g, and-false (corners_good h.m h.marks)) refl)

    -- or ends in u
    module _ {u : Reached} (e : Ok u ≡ walk_from h.marks t.left t) where
      ends : (met_good h ≡ true) × (u ≡ to)
      ends = by (met_good h) refl
        where
          by : (b : Bool) → met_good h ≡ b → (met_good h ≡ true) × (u ≡ to)
          by true g = (g, let told : Ok u ≡ Ok to = e ∙ walk_told ∙ rw g refl in cc)
          by false g = let no : Ok u ≡ Err BadMark = e ∙ walk_told ∙ rw g refl in cc

      pub sampled : Stands h.heights u
      sampled = rw ends.1 (stands_placed h.m a.small a.lengths.heights (ended h) (weighs h a.within))

      told_void : void_in h.heights u ≡ void_in h.heights to
      told_void = ap (void_in h.heights) ends.1

      module _ (good : corners_good h.m h.marks ≡ true) where
        pub void_refused : void_in h.heights u ≡ true → refusal h ≡ void_corner
        void_refused void = last ∙ rw (good, ends.0, sym told_void ∙ void) refl

        pub lands : void_in h.heights u ≡ false → (refusal h ≡ accepted) × (u ≡ to)
        lands full = (last ∙ rw (good, ends.0, sym told_void ∙ full) refl, ends.1)

      -- good is what was told of the marks at the grid corners
      pub last_refused : {good : Bool} → good ≡ corners_good h.m h.marks → {r : Refusal} →
          Err r ≡ last_refusal good (void_in h.heights u) → refusal h ≡ number r
      last_refused {good} told {r} e = by good (void_in h.heights u) told refl e
        where
          by : (g v : Bool) → g ≡ corners_good h.m h.marks → void_in h.heights u ≡ v → Err r ≡ last_refusal g v → refusal h ≡ number r
          by false v is void e = let same : r ≡ BadMark = cc in rw same (corner_refused (sym is))
          by true true is void e = let same : r ≡ VoidCorner = cc in rw same (void_refused (sym is) void)
          by true false is void e = cc

      pub footing : void_in h.heights u ≡ false → Stored h.heights u → Footing h.m h.marks h.heights u
      footing full stored =
          let w = weighs h a.within in
          record {
            marked = rw ends.1 (stands_placed h.m a.small a.lengths.marks (ended h) w);
            long = a.lengths.heights;
            stands = sampled;
            stored = stored;
            surveyed = full;
            weights = rw ends.1 w.sum;
            cuts = rw ends.1 (cuts_left h a.within);
          }
