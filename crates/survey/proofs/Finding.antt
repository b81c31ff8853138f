-- The ends of a void lie before and behind it and are less deep; and the mean of what stands there is its height, which is not void.
use mathlib.Core.Path.{◌≡◌, sym, ap, ◌∙◌, subst}
use mathlib.Core.List.{List}
use Prim.Native.Nat.{ℕ, ◌+◌, ◌-◌, ◌*◌, ◌≤◌, ◌<◌}
use native.Mathlib.Omega.{arith}
use lib.ListN.{length, get_or, set}
use lib.Seq.{get_or-set_same}
use lib.IntN.{ℤ}
use mir.Syntax.{w16}
use mir.Val.{SFits}
use Rattle.grid.specs.Grid.{void, is_void, side, samples, place, point, Inside}
use Rattle.grid.specs.Inner.{Spread, reach_by}
use Rattle.grid.specs.Points.{kind, spacing, ends}
use Rattle.grid.specs.declared.points.Point.{Point}
use Rattle.grid.proofs.Coarser.{ends_coarser}
use Rattle.grid.proofs.Level.{level_most}
use Rattle.grid.proofs.Places.{place_below, place_point, point_place}
use Rattle.grid.proofs.Reach.{between}
use Rattle.survey.specs.Filled.{floor_mean, height_of, CornersSurveyed}
use Rattle.survey.specs.Inner.{depth, Stands, IsVoid, VoidAt, Partly, Swept, Run, RunFilled}
use Rattle.survey.proofs.Filling.{height_void, void_inner}
use Rattle.survey.proofs.Mean.{mean_above, above_height, height_not_void, not_void_above}
use Rattle.survey.proofs.Partial.{at_point, settled, partly_none, partly_kept}
use Rattle.survey.proofs.Reading.{sample_place}

-- the ends of the point at place i, d places before and behind it
pub record Reached (m i d : ℕ) : Type 0 where
  pub here : i < samples m
  pub back : d ≤ i
  pub on : i + d < samples m
  first : point m (i - d) ≡ (ends m (point m i)).first
  second : point m (i + d) ≡ (ends m (point m i)).second
  pub before : Inside m (point m (i - d)) × (depth m (point m (i - d)) < depth m (point m i))
  pub behind : Inside m (point m (i + d)) × (depth m (point m (i + d)) < depth m (point m i))

pub reached : {m i d : ℕ} → Spread m (point m i) d → Reached m i d
reached {m} {i} {d} h =
    let p = point m i in
    let f = between h in
    let u = ends_coarser m p h.inside h.inner in
    let first = named (ends m p).first u.0.inside (i - d) (omega (arith, f.before, place_point m i)) in
    let second = named (ends m p).second u.1.inside (i + d) (omega (arith, f.behind, place_point m i)) in
    record {
      here = rw (place_point m i) at (place_below m p h.inside);
      back = omega (arith, f.before, place_point m i);
      on = omega (arith, f.behind, place_point m i, place_below m (ends m p).second u.1.inside);
      first = first;
      second = second;
      before = rw first (u.0.inside, omega (arith, u.0.higher, level_most m (ends m p).first.x (ends m p).first.y));
      behind = rw second (u.1.inside, omega (arith, u.1.higher, level_most m (ends m p).second.x (ends m p).second.y));
    }
  where
    named : (q : Point) → Inside m q → (k : ℕ) → k ≡ place m q → point m k ≡ q
    named q inside k e = ap (point m) e ∙ point_place m q inside

-- a void is no grid corner
pub void_at : {m i d : ℕ} (h : List ℤ) → CornersSurveyed m h → Inside m (point m i) → IsVoid h i →
    d ≡ reach_by (kind m (point m i)) (side m) (spacing m (point m i)) → VoidAt m h i d
void_at {m} {i} h corners inside v e =
    record {
      spread = record { inside = inside; inner = void_inner m h corners (point m i) (ap is_void (sample_place m h i) ∙ v); reached = e };
      is = v;
    }

-- a void is a run of its own
pub alone : {m i d : ℕ} {h : List ℤ} → VoidAt m h i d → Run m i (i + 1) 1 d
alone {m} {i} {d} v =
    record {
      on = omega arith;
      short = omega arith;
      inside = omega (arith, reached v.spread);
      spread = λ k l. rw (same k l) v.spread;
      deep = λ k l. rw (same k l);
    }
  where
    same : (k : ℕ) → i + 1 * k < i + 1 → i + 1 * k ≡ i
    same k l = omega arith

-- where it was run, or a height stood, one stands
pub ran : {m : ℕ} {a c : List ℤ} (i : ℕ) → Swept m a c (RunFilled c i (i + 1) 1) → Swept m a c (Stands c i)
ran {c = c} i f =
    let first : i + 1 * 0 ≡ i = omega arith in
    let stand : Stands c i = rw first at (f.stand 0 (omega arith)) in
    record { partly = f.partly; stand = stand }

pub stood : (m i : ℕ) {a b : List ℤ} → b ≡ a → Stands a i → Swept m a b (Stands b i)
stood m i {a} e h = rw e (record { partly = partly_none m a; stand = h })

-- the height of a void is the mean of those that stand at its ends; it is kept, and is not void
module _ (m : ℕ) (a b : List ℤ) (i d : ℕ) (n : length a ≡ samples m) (v : VoidAt m a i d) (part : Partly m a b) where
  -- what stands there is the height
  known : (k : ℕ) → Inside m (point m k) → Stands b k → get_or b k void ≡ height_of m a (point m k)
  known k inside h =
      let there = sample_place m b k in
      sym there ∙ settled m a b part (point m k) (at_point m a b part (point m k) inside) (ap is_void there ∙ h)

  pub kept : {z : ℤ} → Stands b (i - d) → Stands b (i + d) → SFits w16 (get_or b (i - d) void) → SFits w16 (get_or b (i + d) void) →
      z ≡ floor_mean (get_or b (i - d) void) (get_or b (i + d) void) → Swept m a (set b i z) (Stands (set b i z) i)
  kept {z} one two fits fits' e =
      let p = point m i in
      let x = get_or b (i - d) void in
      let y = get_or b (i + d) void in
      let r = reached v.spread in
      let first = known (i - d) r.before.0 one ∙ ap (height_of m a) r.first in
      let second = known (i + d) r.behind.0 two ∙ ap (height_of m a) r.second in
      let was = ap is_void (sample_place m a i) ∙ v.is in
      let mean : z ≡ height_of m a p = e ∙ (λ k. floor_mean (first k) (second k)) ∙ sym (height_void m a p v.spread.inside was) in
      let room : i < length b = rw (part.long ∙ n) r.here in
      let above = mean_above x y (not_void_above x fits.sfits one) (not_void_above y fits'.sfits two) in
      record {
        partly = subst (λ (h : ℤ). Partly m a (set b i h)) (sym mean) (partly_kept m a b i room part);
        stand = ap is_void (get_or-set_same b i z void room ∙ e) ∙ height_not_void (floor_mean x y) (above_height (floor_mean x y) above);
      }
