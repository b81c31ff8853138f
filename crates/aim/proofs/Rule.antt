-- The promises of height and plane, and document 01's sentences, imply each other, of any answer: what meets a promise follows the sentences,
-- and whatever follows the sentences meets the promise. So the sentences leave nothing open. The heights of an
-- answered call are numbers of 16 bits, as its promise says. Then what else holds of it.
use mathlib.Core.Path.{◌≡◌, refl, sym, ap, ◌∙◌}
use mathlib.Core.Bool.{Bool, true, false, cond, true≢false}
use mathlib.Core.List.{Memᴰ}
use mathlib.Core.Logic.{◌≢◌, ◌↔◌}
use Prim.Native.Nat.{ℕ, ◌+◌, ◌-◌, ◌*◌, ◌^◌, ◌<◌}
use native.Mathlib.Omega.{arith}
use native.Mathlib.Decide.{ℕ_discrete}
use lib.IntN.{ℤ}
use lib.Ieee.{Float}
use lib.Pow.{pow_pos}
use mir.Syntax.{w16}
use mir.Val.{SFits}
use Rattle.grid.specs.Grid.{in_quarters, is_void, Inside}
use Rattle.grid.specs.Refusal.{accepted}
use Rattle.grid.specs.declared.points.Point.{Point}
use Rattle.grid.proofs.Cutting.{corners_inside}
use Rattle.grid.proofs.Sums.{false_by}
use Rattle.survey.specs.Filled.{sample}
use Rattle.selection.proofs.Some.{in_some}
use Rattle.mesh.specs.Triangles.{Three, written}
use Rattle.aim.specs.Quotient.{format, plus_zero, Exactly}
use Rattle.aim.specs.Walk.{Weighed}
use Rattle.aim.specs.Aimed.{Handed, ended, corners_of, refusal, as_written, weighted, eastward, northward, is_filled, height_in, ground_in, no_ground}
use Rattle.aim.specs.Aimed.{Origin, nowhere, surveyed, filled, Said, says, said, height_at, plane_at, CornersSixteen}
use Rattle.aim.specs.Geometry.{area}
use Rattle.aim.specs.Rule.{queried, FilledCorner, Ground, Answered, FollowsHeight, Grounded, FollowsPlane, Told}
use Rattle.aim.specs.declared.HeightAnswer.{HeightAnswer}
use Rattle.aim.specs.declared.HeightAnswer.TheVariants.{Surveyed, Filled, Refused}
use Rattle.aim.specs.declared.PlaneAnswer.{PlaneAnswer}
use Rattle.aim.proofs.Exactness.{exactly, exactly_only}
use Rattle.aim.proofs.Planes.{plane_only, moved_east, moved_north}
use Rattle.aim.proofs.Weights.{Weighs, area_power, contained, barycentric_even, barycentric_odd}
use Rattle.aim.proofs.Passages.{Lands, same_order}
use Rattle.aim.proofs.Accepted.{turned, turned_only, end, lands, Accepted, accepted_handed}
use Rattle.aim.proofs.Answered.{height_taken, height_refused, height_number, plane_taken, plane_refused_lem, plane_number}
use Rattle.aim.proofs.Bounds.{quarters_power, is_height, Known, AllKnown, whole_largest, height_fits, east_fits, north_fits}
use Rattle.aim.proofs.Grounds.{weighs, cuts_left, plane, filled_here}

-- an origin as a number, which tells two apart; Filled or Surveyed by a test
abbrev pub kind : Origin → ℕ
kind nowhere = 0
kind surveyed = 1
kind filled = 2

apart : {r r' : Said} → r ≡ r' → kind r.origin ≡ kind r'.origin
apart e = ap (λ (s : Said). kind s.origin) e

pub origin_filled : (b : Bool) → (cond b filled surveyed ≡ filled) ↔ (b ≡ true)
origin_filled true = (λ e. refl, λ e. refl)
origin_filled false = (λ e. absurd (omega (arith, ap kind e)), λ e. absurd (true≢false (sym e)))

pub origin_surveyed : (b : Bool) → (cond b filled surveyed ≡ surveyed) ↔ ¬ (b ≡ true)
origin_surveyed true = (λ e. absurd (omega (arith, ap kind e)), λ n. absurd (n refl))
origin_surveyed false = (λ e t. true≢false (sym t), λ n. refl)

-- an answered call
module _ (h : Handed) (small : CornersSixteen h) (a : Accepted h) where
  abbrev triangle : Weighed
  triangle = (ended h).triangle

  abbrev left : ℕ
  left = (ended h).left

  abbrev z : ℤ
  z = weighted h.m h.heights triangle

  abbrev e : ℤ
  e = eastward h.m h.heights (as_written (ended h))

  abbrev n : ℤ
  n = northward h.m h.heights (as_written (ended h))

  here : Weighs h.m left (queried h) triangle
  here = weighs h a.within

  area_here : area (as_written (ended h)) ≡ 2 ^ left
  area_here = area_power here.triangle

  -- as it is written by the cuts made
  order : (cuts : ℕ) → left + cuts ≡ 2 * h.m → written cuts triangle.l triangle.a triangle.r ≡ as_written (ended h)
  order cuts all = same_order h.m left cuts triangle.l triangle.a triangle.r all

  ground : Ground h
  ground =
      let s = end h a.within in
      record {
        cuts = s.made;
        l = triangle.l;
        a = triangle.a;
        r = triangle.r;
        ends = s.ends;
        z = z;
        e = e;
        n = n;
        plane = rw (order s.made s.all) (plane h a.within);
      }

  -- any other is the same
  module _ (g : Ground h) where
    landed : Lands h.m (ended h) g.cuts g.l g.a g.r
    landed = lands h a.within g.ends

    same_triangle : written g.cuts g.l g.a g.r ≡ as_written (ended h)
    same_triangle = let t = landed in rw (← t.left, ← t.apex, ← t.right) (order g.cuts t.all)

    same_plane : (g.z ≡ z) × (g.e ≡ e) × (g.n ≡ n)
    same_plane =
        plane_only h.m h.heights (as_written (ended h)) (queried h) (rw area_here (pow_pos left)) g.z g.e g.n z e n
        (rw same_triangle at g.plane) (plane h a.within)

  -- its corners have heights, so its numbers are divided exactly
  known : AllKnown h.m h.heights triangle
  known =
      let inside = corners_inside here.triangle in
      record {
        left = at triangle.l inside.left small.left (Memᴰ.head refl);
        apex = at triangle.a inside.top small.apex (Memᴰ.tail (Memᴰ.head refl));
        right = at triangle.r inside.right small.right (Memᴰ.tail (Memᴰ.tail (Memᴰ.head refl)));
      }
    where
      void : Point → Bool
      void p = is_void (sample h.m h.heights p)

      at : (p : Point) → Inside h.m p → SFits w16 (sample h.m h.heights p) → Memᴰ p (corners_of triangle) → Known h.m h.heights p
      at p i f k =
          let surveyed = false_by (void p) (λ v. true≢false (sym (in_some void (corners_of triangle) k v) ∙ a.surveyed)) in
          record { inside = i; height = is_height (sample h.m h.heights p) f.sfits surveyed }

  exact_height : Exactly format z (in_quarters h.m) (height_in h.m h.heights triangle)
  unfolding height_in
  exact_height = exactly format z (in_quarters h.m) (height_fits h.heights a.small here known)

  exact_east : Exactly format e (area (as_written (ended h))) (ground_in h.m h.heights (ended h)).east
  unfolding ground_in
  exact_east = rw area_here (exactly format e (2 ^ left) (east_fits h.heights a.small here known (cuts_left h a.within)))

  exact_north : Exactly format n (area (as_written (ended h))) (ground_in h.m h.heights (ended h)).north
  unfolding ground_in
  exact_north = rw area_here (exactly format n (2 ^ left) (north_fits h.heights a.small here known (cuts_left h a.within)))

  -- what is answered, and that nothing else is
  abbrev origin : Origin
  origin = cond (is_filled h.m h.marks triangle) filled surveyed

  abbrev height : Float
  height = height_in h.m h.heights triangle

  abbrev facing : Three
  facing = as_written (ended h)

  filled_told : (is_filled h.m h.marks triangle ≡ true) ↔ FilledCorner h facing
  filled_told = filled_here h a.within

  module _ (g : Ground h) where
    corner_same : FilledCorner h (written g.cuts g.l g.a g.r) ↔ FilledCorner h facing
    corner_same = rw (same_triangle g) (λ c. c, λ c. c)

  answered : Answered h origin height
  unfolding ground weighted
  answered =
      let test = is_filled h.m h.marks triangle in
      let same = corner_same ground in
      record {
        ground = ground;
        exactly = exact_height;
        is_filled = (
          λ o. same.1 (filled_told.0 ((origin_filled test).0 o)),
          λ c. (origin_filled test).1 (filled_told.1 (same.0 c)),
        );
        is_surveyed = (
          λ o c. (origin_surveyed test).0 o (filled_told.1 (same.0 c)),
          λ n. (origin_surveyed test).1 (λ t. n (same.1 (filled_told.0 t))),
        );
      }

  answered_only : {o : Origin} {x : Float} → Answered h o x → (o ≡ origin) × (x ≡ height)
  answered_only {o} {x} k = (by (is_filled h.m h.marks triangle) refl, same_height)
    where
      by : (b : Bool) → is_filled h.m h.marks triangle ≡ b → o ≡ cond b filled surveyed
      by true e = k.is_filled.1 ((corner_same k.ground).1 (filled_told.0 e))
      by false e = k.is_surveyed.1 (λ c. true≢false (sym (filled_told.1 ((corner_same k.ground).0 c)) ∙ e))

      same_height : x ≡ height
      same_height =
          exactly_only format z (in_quarters h.m) (rw (quarters_power h.m) (pow_pos (2 + h.m))) x height
          (rw (same_plane k.ground).0 at k.exactly) exact_height

  grounded : (r : PlaneAnswer) → r.ground ≡ ground_in h.m h.heights (ended h) → Grounded h r
  unfolding ground_in ground weighted
  grounded r s =
      let same = same_triangle ground in
      record {
        ground = ground;
        height = rw s exact_height;
        east = rw (s, same) exact_east;
        north = rw (s, same) exact_north;
      }

  grounded_only : (r : PlaneAnswer) → Grounded h r → r.ground ≡ ground_in h.m h.heights (ended h)
  unfolding ground_in
  grounded_only r k =
      let is = same_plane k.ground in
      let same = same_triangle k.ground in
      let some : 0 < area facing = rw area_here (pow_pos left) in
      λ i.
      record {
        height = exactly_only format z (in_quarters h.m) (rw (quarters_power h.m) (pow_pos (2 + h.m))) r.ground.height height (rw is.0 at k.height) exact_height i;
        east = exactly_only format e (area facing) some r.ground.east (ground_in h.m h.heights (ended h)).east (rw (is.1, same) at k.east) exact_east i;
        north = exactly_only format n (area facing) some r.ground.north (ground_in h.m h.heights (ended h)).north (rw (is.2, same) at k.north) exact_north i;
      }

-- what an answer says leaves no other answer
pub said_only : (r r' : HeightAnswer) → said r ≡ said r' → r ≡ r'
said_only (Surveyed x) (Surveyed y) e = ap Surveyed (ap (λ (s : Said). s.height) e)
said_only (Surveyed x) (Filled y) e = absurd (omega (arith, apart e))
said_only (Surveyed x) (Refused n) e = absurd (omega (arith, apart e))
said_only (Filled x) (Surveyed y) e = absurd (omega (arith, apart e))
said_only (Filled x) (Filled y) e = ap Filled (ap (λ (s : Said). s.height) e)
said_only (Filled x) (Refused n) e = absurd (omega (arith, apart e))
said_only (Refused n) (Surveyed y) e = absurd (omega (arith, apart e))
said_only (Refused n) (Filled y) e = absurd (omega (arith, apart e))
said_only (Refused n) (Refused k) e = ap Refused (ap (λ (s : Said). s.refusal) e)

-- a refusal has neither origin nor height
unsaid : (r : HeightAnswer) → (said r).refusal ≢ accepted → ((said r).origin ≡ nowhere) × ((said r).height ≡ plus_zero)
unsaid (Surveyed x) n = absurd (n refl)
unsaid (Filled x) n = absurd (n refl)
unsaid (Refused k) n = (refl, refl)

pub follows_height : {h : Handed} {r : HeightAnswer} → (refusal h ≡ accepted → CornersSixteen h) → (said r ≡ height_at h) ↔ FollowsHeight h r
follows_height {h} {r} small = (to, λ f. from f (ℕ_discrete (said r).refusal accepted))
  where
    to : said r ≡ height_at h → FollowsHeight h r
    to s =
        let number : (said r).refusal ≡ refusal h = ap (λ (x : Said). x.refusal) s ∙ height_number h in
        record {
          turned = rw number (turned h);
          answered = λ ok.
              let ok' = sym number ∙ ok in
              rw (s ∙ height_taken h ok') (answered h (small ok') (accepted_handed h ok'));
        }

    from : FollowsHeight h r → Dec ((said r).refusal ≡ accepted) → said r ≡ height_at h
    from f (yes ok) =
        let ok' = sym (turned_only h f.turned) ∙ ok in
        let k = answered_only h (small ok') (accepted_handed h ok') (f.answered ok) in
        (λ i. says (ok i) (k.0 i) (k.1 i)) ∙ sym (height_taken h ok')
    from f (no n) =
        let given = turned_only h f.turned in
        let k = unsaid r n in
        (λ i. says (given i) (k.0 i) (k.1 i)) ∙ sym (height_refused h (λ ok. n (given ∙ ok)))

pub follows_plane : {h : Handed} {r : PlaneAnswer} → (refusal h ≡ accepted → CornersSixteen h) → (r ≡ plane_at h) ↔ FollowsPlane h r
follows_plane {h} {r} small = (to, λ f. from f (ℕ_discrete r.refusal accepted))
  where
    to : r ≡ plane_at h → FollowsPlane h r
    to s =
        let number : r.refusal ≡ refusal h = ap (λ (x : PlaneAnswer). x.refusal) s ∙ plane_number h in
        let ground : r.ground ≡ (plane_at h).ground = ap (λ (x : PlaneAnswer). x.ground) s in
        record {
          turned = rw number (turned h);
          refused = λ n. let e = ground ∙ ap (λ (x : PlaneAnswer). x.ground) (plane_refused_lem h (λ ok. n (number ∙ ok))) in rw e (record { height = refl; east = refl; north = refl });
          answered = λ ok. let ok' = sym number ∙ ok in grounded h (small ok') (accepted_handed h ok') r (ground ∙ ap (λ (x : PlaneAnswer). x.ground) (plane_taken h ok'));
        }

    from : FollowsPlane h r → Dec (r.refusal ≡ accepted) → r ≡ plane_at h
    from f (yes ok) =
        let ok' = sym (turned_only h f.turned) ∙ ok in
        let k = grounded_only h (small ok') (accepted_handed h ok') r (f.answered ok) in
        (λ i. record { refusal = ok i; ground = k i }) ∙ sym (plane_taken h ok')
    from f (no n) =
        let given = turned_only h f.turned in
        let k = f.refused n in
        let none : r.ground ≡ no_ground = λ i. record { height = k.height i; east = k.east i; north = k.north i } in
        (λ i. record { refusal = given i; ground = none i }) ∙ sym (plane_refused_lem h (λ ok. n (given ∙ ok)))

-- what else holds of an answered call
pub told : (h : Handed) → CornersSixteen h → refusal h ≡ accepted → Told h
told h small ok = record {
  most = λ g. rw (same_plane h small a g).0 (whole_largest h.heights a.small w (known h small a));
  below = λ g. rw (same_plane h small a g).0 (height_fits h.heights a.small w (known h small a)).whole;
  contains = λ g. rw (same_triangle h small a g) (contained w);
  doubled = λ g. rw (same_triangle h small a g, area_here h small a, rest g (landed h small a g)) refl;
  ends = let s = end h a.within in rw (made s.all) s.ends;
  even = λ e. barycentric_even w e;
  odd = λ o. barycentric_odd w o;
  east = λ g z p. moved_east h.m h.heights (written g.cuts g.l g.a g.r) (queried h) g.z z g.e g.n g.plane p;
  north = λ g z p. moved_north h.m h.heights (written g.cuts g.l g.a g.r) (queried h) g.z z g.e g.n g.plane p;
}
  where
    a : Accepted h
    a = accepted_handed h ok

    w : Weighs h.m (ended h).left (queried h) (ended h).triangle
    w = here h small a

    rest : (g : Ground h) → Lands h.m (ended h) g.cuts g.l g.a g.r → (ended h).left ≡ 2 * h.m - g.cuts
    rest g t = omega (arith, t.all)

    made : {cuts : ℕ} → (ended h).left + cuts ≡ 2 * h.m → 2 * h.m - (ended h).left ≡ cuts
    made e = omega arith
