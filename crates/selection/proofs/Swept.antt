-- How a sweep goes on: from a row to the next, from a rank to the next. In between there is no point of that rank: it would have other parities.
use Rattle.std.proofs.Common.{◌≡◌, ℕ, suc, ◌+◌, ◌*◌, ◌%◌, ◌^◌, ◌<◌, ◌≤◌, Bool, true, false, sym, refl, ap, ◌∙◌, mul-le-mul_left, arith}
use native.Mathlib.Decide.{ℕ_discrete, dec_lt}
use Rattle.grid.specs.Grid.{side, Inside}
use Rattle.grid.specs.Points.{is_corner, units, rank}
use Rattle.grid.specs.declared.points.Point.{Point}
use Rattle.grid.proofs.Units.{Times, Odd, Form, edge, centre, form, rank_edge, rank_centre, corner_rank}
use Rattle.grid.proofs.Placed.{Placed, placed, measured, inner}
use Rattle.grid.proofs.Around.{same_point}
use Rattle.selection.specs.Inner.{Swept, corner, finer, row}

-- two points of one rank: one level, and units of one parity
pub record Ranked (i a b j c d : ℕ) : Type 0 where
  pub level : i ≡ j
  pub sum : (a + b) % 2 ≡ (c + d) % 2

pub ranked : {m i a b j c d : ℕ} {p q : Point} → Placed m i a b p → Placed m j c d q → rank m p ≡ rank m q → Ranked i a b j c d
ranked {m} {i} {a} {b} {j} {c} {d} {p} {q} f g e = go (form a b f.odd) (form c d g.odd)
  where
    go : Form a b → Form c d → Ranked i a b j c d
    go (edge u) (edge v) = omega (arith, rank_edge (measured f) u, rank_edge (measured g) v)
    go (edge u) (centre v w) = absurd (omega (arith, rank_edge (measured f) u, rank_centre (measured g) v w))
    go (centre u t) (edge v) = absurd (omega (arith, rank_centre (measured f) u t, rank_edge (measured g) v))
    go (centre u t) (centre v w) = omega (arith, rank_centre (measured f) u t, rank_centre (measured g) v w)

-- a point of the square that has the rank of a placed one is placed at its level
pub record Alike (m j a b : ℕ) (p : Point) : Type 0 where
  pub times : Times (2 ^ j) (units m p).across (units m p).up p
  pub odd : Odd (units m p).across (units m p).up
  pub sum : ((units m p).across + (units m p).up) % 2 ≡ (a + b) % 2

module _ {m j a b : ℕ} {q : Point} (g : Placed m j a b q) where
  pub alike : (p : Point) → Inside m p → rank m p ≡ rank m q → Alike m j a b p
  alike p h e =
      let low : rank m p < 2 * m = rw e ((corner_rank m q g.inside).1 (inner g)) in
      let f = placed m p h (by (is_corner m p) refl low) in
      let k = ranked f g e in
      record { times = rw k.level at f.times; odd = f.odd; sum = k.sum }
    where
      by : (t : Bool) → is_corner m p ≡ t → rank m p < 2 * m → is_corner m p ≡ false
      by false n l = n
      by true c l = absurd (omega (arith, (corner_rank m p h).0 c))

  -- a point of that rank in that row and column is the placed one
  pub same_there : (p : Point) → Inside m p → rank m p ≡ rank m q → (units m p).up ≡ b → (units m p).across ≡ a → p ≡ q
  same_there p h e u c =
      let s = alike p h e in
      same_point
      (s.times.east ∙ ap (λ (n : ℕ). 2 ^ j * n) c ∙ sym g.times.east)
      (s.times.north ∙ ap (λ (n : ℕ). 2 ^ j * n) u ∙ sym g.times.north)

  -- and no column beyond the square holds one
  pub column_inside : (c : ℕ) → side m < 2 ^ j * c → (p : Point) → Inside m p → rank m p ≡ rank m q → (units m p).across < c
  column_inside c l p h e = by (dec_lt (units m p).across c)
    where
      by : Dec ((units m p).across < c) → (units m p).across < c
      by (yes d) = d
      by (no d) =
          let t = (alike p h e).times.east in
          let far : 2 ^ j * c ≤ 2 ^ j * (units m p).across = mul-le-mul_left (2 ^ j) (omega arith) in
          absurd (omega (arith, h.east))

  -- the last row of a rank lies at the square's border or beyond
  pub passed : (c : ℕ) → side m < 2 ^ j * c → (p : Point) → Inside m p → Swept m (suc (rank m q)) 0 p → Swept m (rank m q) c p
  passed c l p h (corner e) = corner e
  passed c l p h (row e k) = absurd (omega arith)
  passed c l p h (finer k) = by (ℕ_discrete (rank m p) (rank m q))
    where
      by : Dec (rank m p ≡ rank m q) → Swept m (rank m q) c p
      by (no n) = finer (omega arith)
      by (yes e) =
          let t = (alike p h e).times.north in
          row e (go (dec_lt (units m p).up c) t)
        where
          go : Dec ((units m p).up < c) → p.y ≡ 2 ^ j * (units m p).up → (units m p).up < c
          go (yes d) t = d
          go (no d) t =
              let far : 2 ^ j * c ≤ 2 ^ j * (units m p).up = mul-le-mul_left (2 ^ j) (omega arith) in absurd (omega (arith, h.north))

  -- no centre lies in a row that is even
  pub skipped : a % 2 ≡ 1 → b % 2 ≡ 1 → (c : ℕ) → c % 2 ≡ 0 → (p : Point) → Inside m p →
      Swept m (rank m q) (suc c) p → Swept m (rank m q) c p
  skipped oa ob c ec p h (corner e) = corner e
  skipped oa ob c ec p h (finer k) = finer k
  skipped oa ob c ec p h (row e k) = by (form _ _ (alike p h e).odd)
    where
      by : Form (units m p).across (units m p).up → Swept m (rank m q) c p
      by (edge o) = absurd (omega (arith, (alike p h e).sum))
      by (centre ou ov) = row e (omega arith)
