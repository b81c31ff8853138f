-- Over any closed set, what the passages of the ring lay is the strip of the list, and of that strip K1's sentences hold. From the one starting
-- triangle to the other the strip crosses the diagonal at (N, N); at (0, 0) it is the side that the last triangle shares with the first.
use mathlib.Core.Path.{◌≡◌, refl, sym, ap, subst}
use mathlib.Core.Bool.{Bool, true}
use mathlib.Core.List.{List, ◌∷◌, ◌++◌}
use Prim.Native.Nat.{ℕ, suc, ◌+◌, ◌*◌, ◌≤◌}
use native.Mathlib.Nat.{zero-mul}
use native.Mathlib.Omega.{arith}
use lib.ListN.{length}
use Rattle.std.specs.Prelude.{Some, None}
use Rattle.grid.specs.Grid.{side, at, place, point, Inside}
use Rattle.grid.specs.Hierarchy.{first, second}
use Rattle.grid.specs.declared.points.Point.{Point}
use Rattle.grid.proofs.Places.{point_place}
use Rattle.selection.specs.Rule.{Closed}
use Rattle.mesh.specs.Triangles.{uncut, mesh}
use Rattle.mesh.specs.Closed.{kept_by}
use Rattle.mesh.specs.Inner.{kept_place}
use Rattle.strip.specs.Strip.{Corners, placed, going_on, strip_of}
use Rattle.strip.specs.Reading.{read_strip, reading, AllAlike, more as and, Neighbours, nth}
use Rattle.strip.specs.Rule.{Strip, starts as start, OneStrip}
use Rattle.strip.specs.Inner.{passages, ring_of, laid, outset}
use Rattle.strip.specs.declared.ring.Side.TheVariants.{Longest}
use Rattle.strip.specs.declared.ring.Passage.{Passage}
use Rattle.strip.proofs.Corner.{on_way, off_way}
use Rattle.strip.proofs.Turns.{turn, differ, apart}
use Rattle.strip.proofs.Passing.{nowhere, begins, legs, over, starts, closes, Run, one as lone, more, follow, cast}
use Rattle.strip.proofs.Wedge.{placed_append, wedge}
use Rattle.strip.proofs.Sharing.{next, turns, corner_first, begun_so, both, not_shared}
use Rattle.strip.proofs.Joined.{join, head, neighbours, foremost, hindmost}
use Rattle.strip.proofs.Going.{alike, goes}
use Rattle.strip.proofs.Most.{most}

-- what holds of a ring of passages, and of its triangles
record Ringed (ps : List Passage) (ts : List Corners) : Type 0 where
  lays : laid outset ps ≡ strip_of ts
  rule : Strip ts (strip_of ts)
  reads : AllAlike (read_strip (strip_of ts)) ts
  most : length (strip_of ts) ≤ 2 * length ts

-- the first triangle is begun so that its way out is its last two places
ringed : {m : ℕ} {ps : List Passage} {ts : List Corners} → Run m nowhere ps ts nowhere → Ringed ps ts
unfolding laid strip_of reading
ringed (lone p) = elim p [ ]
ringed (more {t = t} {u = u} {ts = ts} {x = x} {y = y} (begins {z = z} b c on) r) =
    let g = (goes r).1 in
    let w = turns b c in
    let a = apart w in
    let k = both (head r) in
    let n = not_shared (turn w) (head r) in
    let f = begun_so u b n k.1 k.0 in
    let is : strip_of (t ∷ u ∷ ts) ≡ z ∷ y ∷ x ∷ going_on y x (u ∷ ts) =
    ap (λ (b : Corners). b.first ∷ b.second ∷ b.third ∷ going_on b.second b.third (u ∷ ts)) f in
    record {
      lays = rw (on outset, f) (ap (λ (l : List ℕ). z ∷ y ∷ x ∷ l) (g.lays 3));
      rule =
          rw f
          (start (alike b) ((on_way u (corner_first (next b))).0 k.1) ((on_way u (corner_first (next (next b)))).0 k.0) (differ (turn w))
          ((off_way u (corner_first b)).0 n) g.rule);
      reads = subst (λ (l : List ℕ). AllAlike (read_strip l) (t ∷ u ∷ ts)) (sym is) (rw (a.xy, a.yz, a.zx) (and (alike b) g.reads));
      most = most t u ts;
    }

module _ {m : ℕ} {kept : Point → Bool} (kept' : ℕ → Bool) (agree : (p : Point) → Inside m p → kept' (place m p) ≡ kept p)
    (closed : Closed m (λ p. kept p ≡ true)) where
  -- what the one starting triangle leads to, and the other
  abbrev firsts : List Corners
  firsts = placed m (uncut kept (2 * m) 0 (at 0 0) (at (side m) 0) (at (side m) (side m)))

  abbrev seconds : List Corners
  seconds = placed m (uncut kept (2 * m) 0 (at (side m) (side m)) (at 0 (side m)) (at 0 0))

  listed : placed m (mesh m kept) ≡ firsts ++ seconds
  unfolding mesh
  listed =
      placed_append m (uncut kept (2 * m) 0 (at 0 0) (at (side m) 0) (at (side m) (side m)))
      (uncut kept (2 * m) 0 (at (side m) (side m)) (at 0 (side m)) (at 0 0))

  run : Run m nowhere (ring_of kept' m) (placed m (mesh m kept)) nowhere
  unfolding ring_of mesh place
  run =
      let none : 0 + 2 * m ≡ 2 * m = omega arith in
      let ne : ℕ = side m * (side m + 1) + side m in
      let sw : 0 ≡ 0 * (side m + 1) + 0 = omega (arith, zero-mul (side m + 1)) in
      let se : side m ≡ 0 * (side m + 1) + side m = omega (arith, zero-mul (side m + 1)) in
      let nw : side m * (side m + 1) ≡ side m * (side m + 1) + 0 = omega arith in
      cast refl
      (λ i. passages kept' (2 * m) (sw i) (se i) ne None (Some Longest) ++ passages kept' (2 * m) ne (nw i) (sw i) (Some Longest) None)
      listed refl
      (follow (wedge kept' agree closed (2 * m) 0 first none starts) (wedge kept' agree closed (2 * m) 0 second none closes))

  -- the last shares a side with the first: the diagonal, from (0, 0) on
  closing : (n : ℕ) → length (firsts ++ seconds) ≡ suc n → Neighbours (nth (firsts ++ seconds) n) (nth (firsts ++ seconds) 0)
  closing n e =
      let none : 0 + 2 * m ≡ 2 * m = omega arith in
      join (hindmost firsts (wedge kept' agree closed (2 * m) 0 second none over) n e)
      (foremost seconds (wedge kept' agree closed (2 * m) 0 first none (legs {s = (Some Longest)})))

  one : OneStrip (placed m (mesh m kept)) (strip_of (placed m (mesh m kept)))
  one =
      let r = ringed run in
      record {
        neighbours = neighbours run;
        ring = λ {n} e. rw listed (closing n (rw listed at e));
        goes = r.rule;
        reads = r.reads;
        most = r.most;
      }

  pub lays : laid outset (ring_of kept' m) ≡ strip_of (placed m (mesh m kept))
  lays = (ringed run).lays

pub ring_strip : (m : ℕ) (marks : List ℕ) → Closed m (λ p. kept_by m marks p ≡ true) →
    laid outset (ring_of (kept_place marks) m) ≡ strip_of (placed m (mesh m (kept_by m marks)))
ring_strip m marks closed = lays (kept_place marks) (λ p h. refl) closed

pub one_strip : {m : ℕ} {kept : Point → Bool} → Closed m (λ p. kept p ≡ true) →
    OneStrip (placed m (mesh m kept)) (strip_of (placed m (mesh m kept)))
one_strip {m} {kept} closed = one (λ i. kept (point m i)) (λ p h. ap kept (point_place m p h)) closed
