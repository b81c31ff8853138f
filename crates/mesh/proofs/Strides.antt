-- The points of one spacing, along a line, lie at places that are steps apart, and what each depends on lies a fixed number of places
-- before and after it. So whether all that they depend on is kept is asked by places alone.
use mathlib.Core.Path.{◌≡◌, refl, sym, ap, ◌∙◌}
use mathlib.Core.Bool.{Bool, true, false, false≢true, cond, not, ◌&&◌, ◌||◌, and-true, and-eq-true_iff}
use mathlib.Core.List.{List}
use mathlib.Core.Logic.{◌↔◌}
use Prim.Native.Nat.{ℕ, suc, ◌+◌, ◌-◌, ◌*◌, ◌%◌, ◌≤◌, ◌<◌}
use native.Mathlib.Nat.{mul-zero, mul-suc, mul-le-mul_left, mul-one, mul_comm, mul_assoc, add-mul, le_of_mul-le-mul_left, lt_of_mul-lt-mul_right, mul-lt-mul_of_pos_right, sub-zero, add-zero}
use native.Mathlib.Decide.{dec_lt}
use native.Mathlib.Omega.{arith}
use borrow.Author.Tests.{leb-true}
use lib.Dec.{leb}
use lib.ListN.{length}
use Rattle.grid.specs.Grid.{side, samples, largest, place, at, Inside}
use Rattle.grid.specs.Points.{laid, in_line, near, both, ends_by, depends_on, depends_by}
use Rattle.grid.specs.declared.points.Point.{Point}
use Rattle.grid.specs.declared.points.Kind.{Kind}
use Rattle.grid.specs.declared.points.Kind.TheVariants.{Rising, Falling}
use Rattle.grid.proofs.Around.{Way, row, column, rise, fall}
use Rattle.grid.proofs.Places.{place_below, samples_small}
use Rattle.grid.proofs.Room.{Reach, reach}
use Rattle.grid.specs.Inner.{Power}
use Rattle.grid.proofs.Powers.{positive, stands}
use Rattle.grid.proofs.Reach.{Between, between_by}
use Rattle.grid.proofs.Rows.{way_odd, sited}
use Rattle.selection.proofs.Sweeps.{half, wide}
use Rattle.mesh.specs.Closed.{every, kept_by, supported}
use Rattle.std.specs.Bool.{Decides}
use Rattle.mesh.specs.Inner.{kept_place, Backed, BackedAlong, Stride, unit, Across, falls, rises}
use Rattle.mesh.proofs.Passing.{line_test}

-- the place of a point on a line
place_laid : (m : ℕ) (turned : Bool) (a c : ℕ) → place m (laid turned a c) ≡ c * unit m (not turned) + a * unit m turned
unfolding place
place_laid m false a c = ap (λ (n : ℕ). c * (side m + 1) + n) (sym (mul-one a))
place_laid m true a c = omega (arith, mul-one c)

pub unit_positive : (m : ℕ) (turned : Bool) → 0 < unit m turned
unit_positive m false = omega arith
unit_positive m true = omega arith

-- p is asked by the places so many before and after its own
pub record Looked (m : ℕ) (marks : List ℕ) (p : Point) (before after : ℕ) : Type 0 where
  pub back : before ≤ place m p
  pub on : place m p + after < samples m
  pub is : (supported m (kept_by m marks) p ≡ true) ↔ Backed marks before after (place m p)

-- if it is kept, two are
if_kept : (kept : Bool) {all one two : Bool} → (kept ≡ true → all ≡ (one && two)) →
    ((not kept || all) ≡ true) ↔ (kept ≡ true → (one ≡ true) × (two ≡ true))
if_kept true {all} {one} {two} e = (
  λ a k. (and-eq-true_iff one two).0 (sym (e refl) ∙ a),
  λ f. e refl ∙ (and-eq-true_iff one two).1 (f refl),
)
if_kept false e = (λ a k. absurd (false≢true k), λ f. refl)

laid_turned : (turned : Bool) (a c : ℕ) → laid (not turned) c a ≡ laid turned a c
laid_turned false a c = refl
laid_turned true a c = refl

laid_inside : {m a c : ℕ} (turned : Bool) → a ≤ side m → c ≤ side m → Inside m (laid turned a c)
laid_inside false l h = record { east = l; north = h }
laid_inside true l h = record { east = h; north = l }

module _ {m s : ℕ} (w : Power m s) where
  -- from an odd number of s it reaches s back and on
  pub odd_reach : (a : ℕ) → a % 2 ≡ 1 → s * a ≤ side m → Reach (side m) s (s * a)
  odd_reach a o l = reach (side m) s (half w) a (s * a) (wide w) refl (le_of_mul-le-mul_left (rw (wide w) at l) (positive w)) o

  depends_way : {a b : ℕ} {k : Kind} → Way a b k → Inside m (at (s * a) (s * b)) →
      depends_on m (at (s * a) (s * b)) ≡ depends_by k (side m) s (s * a) (s * b)
  unfolding depends_on
  depends_way {a} {b} way h =
      let z = sited (stands w refl refl h (way_odd way)) w.power way in
      sym (λ i. depends_by (z.kinded i) (side m) (z.spaced i) (s * a) (s * b))

  module _ (marks : List ℕ) where
    -- an edge point depends on those s beside its line, inside the square
    module _ (turned : Bool) (a b : ℕ) (oa : a % 2 ≡ 1) (eb : b % 2 ≡ 0) (la : s * a ≤ side m) (lb : s * b ≤ side m) where
      abbrev c : ℕ
      c = s * b

      abbrev p : Point
      p = laid turned (s * a) c

      abbrev reach_by_lem : Bool → ℕ
      reach_by_lem inside = cond inside (s * unit m (not turned)) 0

      depends_line : depends_on m p ≡ in_line (not turned) (s * a) (near (side m) s c)
      depends_line = go turned
        where
          go : (t : Bool) → depends_on m (laid t (s * a) c) ≡ in_line (not t) (s * a) (near (side m) s c)
          go false = depends_way (row oa eb) (record { east = la; north = lb })
          go true = depends_way (column eb oa) (record { east = lb; north = la })

      place_on : (d : ℕ) → place m (laid turned (s * a) (c + d)) ≡ place m p + d * unit m (not turned)
      place_on d = omega (arith, place_laid m turned (s * a) (c + d), place_laid m turned (s * a) c, add-mul c d (unit m (not turned)))

      place_back : s ≤ c → place m (laid turned (s * a) (c - s)) + s * unit m (not turned) ≡ place m p
      place_back l =
          let e : c ≡ c - s + s = omega arith in
          omega (
            arith,
            place_laid m turned (s * a) (c - s),
            place_laid m turned (s * a) c,
            ap (λ (n : ℕ). n * unit m (not turned)) e,
            add-mul (c - s) s (unit m (not turned)),
          )

      back_room : (t : Bool) → leb s c ≡ t → reach_by_lem t ≤ place m p
      back_room false e = omega arith
      back_room true e = omega (arith, place_back (leb-true s c e))

      on_room : (t : Bool) → leb (c + s) (side m) ≡ t → place m p + reach_by_lem t < samples m
      on_room false e = rw (add-zero (place m p)) (place_below m p (laid_inside turned la lb))
      on_room true e =
          rw (← place_on s) (place_below m (laid turned (s * a) (c + s)) (laid_inside turned la (leb-true (c + s) (side m) e)))

      below_is : (t : Bool) → leb s c ≡ t → kept_place marks (place m p) ≡ true →
          cond t (kept_by m marks (laid (not turned) (c - s) (s * a))) true ≡ kept_place marks (place m p - reach_by_lem t)
      below_is false e k = sym (ap (kept_place marks) (sub-zero (place m p)) ∙ k)
      below_is true e k =
          let there : place m (laid turned (s * a) (c - s)) ≡ place m p - s * unit m (not turned) = omega (arith, place_back (leb-true s c e)) in
          rw (laid_turned turned (s * a) (c - s), there)

      above_is : (t : Bool) → leb (c + s) (side m) ≡ t → kept_place marks (place m p) ≡ true →
          cond t (kept_by m marks (laid (not turned) (c + s) (s * a))) true ≡ kept_place marks (place m p + reach_by_lem t)
      above_is false e k = sym (ap (kept_place marks) (add-zero (place m p)) ∙ k)
      above_is true e k = rw (laid_turned turned (s * a) (c + s), place_on s)

      pub edge_looked : Looked m marks p (reach_by_lem (leb s c)) (reach_by_lem (leb (c + s) (side m)))
      unfolding supported
      edge_looked =
          record {
            back = back_room (leb s c) refl;
            on = on_room (leb (c + s) (side m)) refl;
            is = if_kept (kept_place marks (place m p)) (λ k.
                ap (every (kept_by m marks)) depends_line ∙ line_test (kept_by m marks) (not turned) (s * a) (side m) s c
                ∙ (λ i. below_is (leb s c) refl k i && above_is (leb (c + s) (side m)) refl k i));
          }

    -- a centre depends on the two that its ends' diagonal crosses
    module _ (a b : ℕ) (oa : a % 2 ≡ 1) (ob : b % 2 ≡ 1) (la : s * a ≤ side m) (lb : s * b ≤ side m) {d : ℕ} where
      across_looked : (k l : Kind) → Way a b k → depends_by k (side m) s (s * a) (s * b) ≡ both (ends_by l s (s * a) (s * b)) →
          Between m (ends_by l s (s * a) (s * b)) (at (s * a) (s * b)) d → Inside m (ends_by l s (s * a) (s * b)).second →
          Looked m marks (at (s * a) (s * b)) d d
      unfolding supported
      across_looked k l way e f h =
          let p = at (s * a) (s * b) in
          let q = ends_by l s (s * a) (s * b) in
          let on_two = depends_way way (record { east = la; north = lb }) ∙ e in
          let first : place m q.first ≡ place m p - d = omega (arith, f.before) in
          let two : every (kept_by m marks) (both q) ≡ (kept_place marks (place m p - d) && kept_place marks (place m p + d)) =
          rw (← first, f.behind, and-true (kept_by m marks q.second)) in
          record {
            back = omega (arith, f.before);
            on = rw f.behind (place_below m q.second h);
            is = if_kept (kept_place marks (place m p)) (λ kept. ap (every (kept_by m marks)) on_two ∙ two);
          }

      pub centre_looked : Across (side m) s (a + b) d → Looked m marks (at (s * a) (s * b)) d d
      centre_looked (falls t e) =
          let x = odd_reach a oa la in
          let y = odd_reach b ob lb in
          across_looked Rising Falling (rise oa ob t) refl (rw e (between_by m s (s * a) (s * b) Falling (x, y)))
          (record { east = omega arith; north = y.1 })
      centre_looked (rises t e) =
          let x = odd_reach a oa la in
          let y = odd_reach b ob lb in
          across_looked Falling Rising (fall oa ob t) refl (rw e (between_by m s (s * a) (s * b) Rising (x, y)))
          (record { east = x.1; north = y.1 })

-- along a line, from a first number of s on and by so many
module _ {m s : ℕ} (w : Power m s) (turned : Bool) (c first by : ℕ) where
  abbrev one : ℕ
  one = s * unit m turned

  abbrev number : ℕ → ℕ
  number k = first + by * k

  abbrev there : ℕ → Point
  there k = laid turned (s * number k) c

  stepped : (k : ℕ) → s * number k * unit m turned ≡ first * one + by * one * k
  stepped k =
      ap (λ (n : ℕ). n * unit m turned) (mul_comm s (number k)) ∙ mul_assoc (number k) s (unit m turned)
      ∙ add-mul first (by * k) one
      ∙ ap (λ (n : ℕ). first * one + n) (mul_assoc by k one ∙ ap (λ (n : ℕ). by * n) (mul_comm k one) ∙ sym (mul_assoc by one k))

  module _ {from to step : ℕ} (ef : from ≡ c * unit m (not turned) + first * one) (et : to ≡ c * unit m (not turned) + side m * unit m turned)
      (es : step ≡ by * one) where
    place_there : (k : ℕ) → from + step * k ≡ place m (there k)
    place_there k = rw es (omega (arith, place_laid m turned (s * number k) c, stepped k))

    below : (k : ℕ) → (from + step * k < to) ↔ (s * number k < side m)
    below k =
        let e = place_there k ∙ place_laid m turned (s * number k) c in (
          λ l. lt_of_mul-lt-mul_right (unit m turned) (omega arith),
          λ l.
              let h : s * number k * unit m turned < side m * unit m turned = mul-lt-mul_of_pos_right l (unit_positive m turned) in
              omega arith,
        )

    module _ {marks : List ℕ} {before after : ℕ} (long : length marks ≡ samples m)
        (looked : (k : ℕ) → s * number k < side m → Looked m marks (there k) before after) where
      pub stride : 0 < step → step ≤ 4 * samples largest → m ≤ largest → Stride marks from to step before after
      stride on short small =
          record {
            on = on;
            short = short;
            small = omega (arith, samples_small small);
            inside = λ k l. let z = looked k ((below k).0 l) in rw (place_there k, long) (z.back, z.on);
          }

      -- asked by places, it is told of the points
      pub told_stride : {r : Bool} → Decides r (BackedAlong marks from to step before after) →
          Decides r ((k : ℕ) → s * number k < side m → supported m (kept_by m marks) (there k) ≡ true)
      told_stride t = (
        λ e k l. (looked k l).is.1 (rw (place_there k) at (t.0 e k ((below k).1 l))),
        λ f. t.1 (λ k l. rw (place_there k) ((looked k ((below k).0 l)).is.0 (f k ((below k).0 l)))),
      )

-- how far a stride has been asked: at each place before i
pub record Gone (marks : List ℕ) (from step before after i : ℕ) : Type 0 where
  steps : ℕ
  pub place : i ≡ from + step * steps
  pub backed : (k : ℕ) → k < steps → Backed marks before after (from + step * k)

module _ {marks : List ℕ} {from step before after : ℕ} where
  pub gone_first : Gone marks from step before after from
  gone_first = record { steps = 0; place = omega (arith, mul-zero step); backed = λ k l. absurd (omega arith) }

  module _ {i : ℕ} (here : Gone marks from step before after i) where
    pub gone_room : {to : ℕ} → Stride marks from to step before after → i < to → (before ≤ i) × (i + after < length marks)
    gone_room s l = rw here.place (s.inside here.steps (rw here.place at l))

    pub gone_on_lem : Backed marks before after i → Gone marks from step before after (i + step)
    gone_on_lem b =
        record {
          steps = suc here.steps;
          place = omega (arith, here.place, mul-suc step here.steps);
          backed = λ k l. go k l (dec_lt k here.steps);
        }
      where
        go : (k : ℕ) → k < suc here.steps → Dec (k < here.steps) → Backed marks before after (from + step * k)
        go k l (yes d) = here.backed k d
        go k l (no d) = let e : here.steps ≡ k = omega arith in rw (here.place, e) at b

    pub gone_not : {to : ℕ} → i < to → (Backed marks before after i → ⊥) → Decides false (BackedAlong marks from to step before after)
    gone_not l n = (λ e. absurd (false≢true e), λ all. absurd (n (rw here.place (all here.steps (rw here.place at l)))))

    pub gone_last : {to : ℕ} → to ≤ i → Decides true (BackedAlong marks from to step before after)
    gone_last {to} l = (λ e k h. here.backed k (go k h (dec_lt k here.steps)), λ all. refl)
      where
        go : (k : ℕ) → from + step * k < to → Dec (k < here.steps) → k < here.steps
        go k h (yes d) = d
        go k h (no d) =
            let far : step * here.steps ≤ step * k = mul-le-mul_left step (omega arith) in absurd (omega (arith, here.place))
