-- The uncut triangles that one leads to are passed one after another. The first of them keeps the corner l and fills the whole angle there, so
-- the strip comes in along the same side as into the whole; the last does so at r. How far a side then reaches from the corner is told by the
-- side alone: it is halved toward the corner as long as its midpoint is kept. So two triangles with a common side agree.
use mathlib.Core.Path.{◌≡◌, refl, sym, ap, ◌∙◌}
use mathlib.Core.Bool.{Bool, true, false, cond, not}
use mathlib.Core.List.{List, [], ◌∷◌, ◌++◌}
use Prim.Native.Nat.{ℕ, zero, suc, ◌+◌, ◌*◌, ◌/◌, ◌%◌}
use native.Mathlib.Decide.{ℕ_discrete}
use native.Mathlib.Nat.{add_comm}
use native.Mathlib.Omega.{arith}
use lib.ListN.{length}
use Rattle.std.specs.Prelude.{Option, Some, None}
use Rattle.grid.specs.Grid.{place, midpoint, midplace, Inside}
use Rattle.grid.specs.Points.{odd}
use Rattle.grid.specs.Turn.{CounterClockwise}
use Rattle.grid.specs.Hierarchy.{Triangle, first_half, second_half}
use Rattle.grid.specs.declared.points.Point.{Point}
use Rattle.grid.proofs.Cutting.{cut, corners_inside}
use Rattle.grid.proofs.Parity.{even_false, odd_true}
use Rattle.grid.proofs.Places.{point_place, midplace_place}
use Rattle.grid.proofs.Turning.{counter_clockwise}
use Rattle.selection.specs.Rule.{Closed}
use Rattle.mesh.specs.Triangles.{Three, written, uncut}
use Rattle.surface.proofs.Restricted.{restricted}
use Rattle.strip.specs.Strip.{Corners, corners, placed}
use Rattle.strip.specs.Inner.{passage, across, passages}
use Rattle.strip.specs.declared.ring.Side.{Side}
use Rattle.strip.specs.declared.ring.Side.TheVariants.{Leg, Longest}
use Rattle.strip.proofs.Turns.{Turns}
use Rattle.strip.proofs.Passing.{Gate, gate, Ways, legs, by_leg, passed, Run, one, follow, cast}

pub placed_long : (m : ℕ) (ts : List Three) → length (placed m ts) ≡ length ts
placed_long m [] = refl
placed_long m (t ∷ ts) = omega (arith, placed_long m ts)

pub placed_append : (m : ℕ) (ts us : List Three) → placed m (ts ++ us) ≡ placed m ts ++ placed m us
placed_append m [] us = refl
placed_append m (t ∷ ts) us =
    ap (λ (l : List Corners). corners (place m t.first) (place m t.second) (place m t.third) ∷ l) (placed_append m ts us)

odd_suc : (k : ℕ) → odd (suc k) ≡ not (odd k)
odd_suc k = by (ℕ_discrete (k % 2) 0)
  where
    by : Dec (k % 2 ≡ 0) → odd (suc k) ≡ not (odd k)
    by (yes z) = rw (even_false k z) (odd_true (suc k) (omega arith))
    by (no z) = rw (odd_true k (omega arith)) (even_false (suc k) (omega arith))

midplace_back : (v w : ℕ) → midplace v w ≡ midplace w v
midplace_back v w = ap (λ (n : ℕ). n / 2) (add_comm v w)

-- in a half a leg of the whole is the longest side, and the longest side is a leg; and it turns the other way
gate_across : (s : Option Side) (b : Bool) (v a w : ℕ) → gate s (not b) v w a ≡ gate (across s) b v a w
gate_across None b v a w = refl
gate_across (Some Leg) false v a w = refl
gate_across (Some Leg) true v a w = refl
gate_across (Some Longest) false v a w = refl
gate_across (Some Longest) true v a w = refl

module _ (kept : ℕ → Bool) where
  -- where the side from v toward w ends in an uncut triangle: the longest side of a triangle with k cuts left, and a leg of one
  unfoldable mutual
    pub long_end : ℕ → ℕ → ℕ → ℕ
    long_end zero v w = w
    long_end (suc k) v w = cond (kept (midplace v w)) (leg_end k v (midplace v w)) w

    pub leg_end : ℕ → ℕ → ℕ → ℕ
    leg_end zero v a = a
    leg_end (suc k) v a = long_end k v a

  -- the side by which the strip comes in, or goes out, at the corner v of what (v, a, w) leads to
  abbrev pub gate_at : Option Side → ℕ → ℕ → ℕ → ℕ → Gate
  gate_at s k v a w = gate s (odd k) v (leg_end k v a) (long_end k v w)

  -- of a triangle that is cut, at c, its half has it; of one that is not, and whose leg is not halved either, it is its own
  gate_cut : (s : Option Side) (k v a w c : ℕ) → midplace v w ≡ c → kept c ≡ true → gate_at s (suc k) v a w ≡ gate_at (across s) k v c a
  unfolding long_end leg_end
  gate_cut s k v a w c e keeps = rw (e, keeps, odd_suc k) (gate_across s (odd k) v (leg_end k v c) (long_end k v a))

  gate_whole : (s : Option Side) (k v a w c : ℕ) → midplace v w ≡ c → kept c ≡ false → long_end k v a ≡ a →
      gate_at s (suc k) v a w ≡ gate s (odd (suc k)) v a w
  unfolding long_end leg_end
  gate_whole s k v a w c e out f = rw (e, out, f)

never : {b c : Bool} → c ≡ false → (b ≡ true → c ≡ true) → b ≡ false
never {b = true} e f = sym (f refl) ∙ e
never {b = false} e f = refl

-- a triangle is passed, by itself
abbrev Alone : ℕ → ℕ → ℕ → Point → Point → Point → Option Side → Option Side → Type 0
Alone m k cuts l a r comes goes =
    Run m (gate comes (odd k) (place m l) (place m a) (place m r)) (passage (place m l) (place m a) (place m r) k comes goes ∷ [])
    (placed m (written cuts l a r ∷ [])) (gate goes (odd k) (place m r) (place m a) (place m l))

module _ {m : ℕ} where
  turns : {p q w : Point} → Inside m p → Inside m q → Inside m w → CounterClockwise p q w → Turns m (place m p) (place m q) (place m w)
  turns {p} {q} {w} i j k h = record { does = rw (point_place m p i, point_place m q j, point_place m w k) h }

  -- cuts made and cuts left are 2m in all, so both are even or both are odd
  alone : (k cuts : ℕ) {l a r : Point} {comes goes : Option Side} → Triangle m k l a r → cuts + k ≡ 2 * m → Ways comes goes →
      Alone m k cuts l a r comes goes
  alone k cuts {l} {a} {r} {comes} {goes} t all w = by (ℕ_discrete (k % 2) 0)
    where
      by : Dec (k % 2 ≡ 0) → Alone m k cuts l a r comes goes
      by (yes z) =
          let i = corners_inside t in
          rw (even_false k z, even_false cuts (omega arith))
          (one (passed (place m l) (place m a) (place m r) k w false (even_false k z)
          (turns i.left i.top i.right ((counter_clockwise t).0 z))))
      by (no n) =
          let z : k % 2 ≡ 1 = omega arith in
          let i = corners_inside t in
          rw (odd_true k z, odd_true cuts (omega arith))
          (one (passed (place m l) (place m a) (place m r) k w true (odd_true k z)
          (turns i.right i.top i.left ((counter_clockwise t).1 z))))

-- over a set kept by points and, in the same way, by places
module _ {m : ℕ} {kept : Point → Bool} (kept' : ℕ → Bool) (agree : (p : Point) → Inside m p → kept' (place m p) ≡ kept p)
    (closed : Closed m (λ p. kept p ≡ true)) where
  -- what a triangle leads to is passed, from its side at l to its side at r
  abbrev Leads : ℕ → ℕ → Point → Point → Point → Option Side → Option Side → Type 0
  Leads k cuts l a r comes goes =
      Run m (gate_at kept' comes k (place m l) (place m a) (place m r)) (passages kept' k (place m l) (place m a) (place m r) comes goes)
      (placed m (uncut kept k cuts l a r)) (gate_at kept' goes k (place m r) (place m a) (place m l))

  module _ {k : ℕ} {l a r : Point} (t : Triangle m (suc k) l a r) where
    there : midplace (place m l) (place m r) ≡ place m (midpoint l r)
    there = let c = cut t in midplace_place m l r (midpoint l r) c.east c.north

    back : midplace (place m r) (place m l) ≡ place m (midpoint l r)
    back = midplace_back (place m r) (place m l) ∙ there

    kept_there : kept' (place m (midpoint l r)) ≡ kept (midpoint l r)
    kept_there = agree (midpoint l r) (cut t).inside

  -- no leg's midpoint is kept without the cut
  left_whole : (k : ℕ) {l a r : Point} → Triangle m (suc k) l a r → kept (midpoint l r) ≡ false →
      long_end kept' k (place m l) (place m a) ≡ place m a
  unfolding long_end
  left_whole zero t out = refl
  left_whole (suc k) t out =
      let half = first_half t in
      rw (there half, kept_there half ∙ never out ((restricted closed).left t))

  right_whole : (k : ℕ) {l a r : Point} → Triangle m (suc k) l a r → kept (midpoint l r) ≡ false →
      long_end kept' k (place m r) (place m a) ≡ place m a
  unfolding long_end
  right_whole zero t out = refl
  right_whole (suc k) t out =
      let half = second_half t in
      rw (back half, kept_there half ∙ never out ((restricted closed).right t))

  module _ (k cuts : ℕ) {l a r : Point} (comes goes : Option Side) (t : Triangle m (suc k) l a r) where
    halves : kept (midpoint l r) ≡ true → Leads k (suc cuts) l (midpoint l r) a (across comes) (Some Leg) →
        Leads k (suc cuts) a (midpoint l r) r (Some Leg) (across goes) → Leads (suc k) cuts l a r comes goes
    unfolding passages uncut
    halves keeps p q =
        let c = place m (midpoint l r) in
        let e : kept' c ≡ true = kept_there t ∙ keeps in
        let ts = uncut kept k (suc cuts) l (midpoint l r) a in
        let us = uncut kept k (suc cuts) a (midpoint l r) r in
        cast (gate_cut kept' comes k (place m l) (place m a) (place m r) c (there t) e) (rw (there t, e)) (rw keeps (placed_append m ts us))
        (gate_cut kept' goes k (place m r) (place m a) (place m l) c (back t) e) (follow p q)

    whole : kept (midpoint l r) ≡ false → Alone m (suc k) cuts l a r comes goes → Leads (suc k) cuts l a r comes goes
    unfolding passages uncut
    whole out p =
        let c = place m (midpoint l r) in
        let e : kept' c ≡ false = kept_there t ∙ out in
        cast (gate_whole kept' comes k (place m l) (place m a) (place m r) c (there t) e (left_whole k t out)) (rw (there t, e)) (rw out)
        (gate_whole kept' goes k (place m r) (place m a) (place m l) c (back t) e (right_whole k t out)) p

  pub wedge : (k cuts : ℕ) {l a r : Point} {comes goes : Option Side} → Triangle m k l a r → cuts + k ≡ 2 * m → Ways comes goes →
      Leads k cuts l a r comes goes
  unfolding passages uncut long_end leg_end
  wedge zero cuts t all w = alone zero cuts t all w
  wedge (suc k) cuts {l} {a} {r} {comes} {goes} t all w =
      by (kept (midpoint l r)) refl (wedge k (suc cuts) (first_half t) (omega arith) legs)
      (wedge k (suc cuts) (second_half t) (omega arith) (by_leg (across goes)))
    where
      by : (b : Bool) → kept (midpoint l r) ≡ b → Leads k (suc cuts) l (midpoint l r) a (across comes) (Some Leg) →
          Leads k (suc cuts) a (midpoint l r) r (Some Leg) (across goes) → Leads (suc k) cuts l a r comes goes
      by true keeps p q = halves k cuts comes goes t keeps p q
      by false out p q = whole k cuts comes goes t out (alone (suc k) cuts t all w)
