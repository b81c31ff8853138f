-- One spacing of the sweep: where its rows of edge points and of centres begin, what a row adds, and that after the last row the
-- next rank is reached.
use Rattle.std.proofs.Common.{◌≡◌, ℕ, suc, ◌+◌, ◌*◌, ◌%◌, ◌^◌, ◌<◌, ◌≤◌, List, sym, refl, ap, ◌∙◌, inl, mul-le-mul_left, mul-zero, mul-one, mul-suc, arith, pow_pos}
use native.Mathlib.Decide.{dec_lt}
use Rattle.grid.specs.Grid.{side, at, Inside}
use Rattle.grid.specs.Points.{level, units, rank, odd, centre_bit}
use Rattle.grid.specs.declared.points.Point.{Point}
use Rattle.grid.specs.declared.points.Kind.{Kind}
use Rattle.grid.specs.declared.points.Kind.TheVariants.{EastWest, NorthSouth, Rising}
use Rattle.grid.proofs.Around.{Way, row, column, rise}
use Rattle.grid.proofs.Parity.{odd_true, even_false}
use Rattle.grid.proofs.Placed.{Placed, measured, lattice}
use Rattle.grid.specs.Inner.{Sited, Power, next_kind}
use Rattle.selection.specs.Inner.{Spacing, Final, Swept, edge_rank, centre_rank}
use Rattle.selection.proofs.Final.{final_at}
use Rattle.selection.proofs.Swept.{passed, skipped}
use Rattle.grid.proofs.Powers.{two_on, reaches, stands}
use Rattle.grid.proofs.Rows.{way_odd, sited, next_north}

-- the row b of rank r begins at p
pub record Start (m s r b : ℕ) (p : Point) (k : Kind) : Type 0 where
  pub sited : Sited m p k s
  pub first : (units m p).across ≤ 1
  pub ranked : rank m p ≡ r
  pub up : (units m p).up ≡ b

-- what the row gives
pub gives : {m s r b : ℕ} {p : Point} {k : Kind} → Start m s r b p k → {f : Point → ℕ} {marks : List ℕ} →
    Final m f (Swept m (rank m p) (suc (units m p).up)) marks → Final m f (Swept m r (suc b)) marks
gives start final = rw (start.ranked, start.up) at final

-- and what it asks
pub asks : {m s r b : ℕ} {p : Point} {k : Kind} → Start m s r b p k → {f : Point → ℕ} {marks : List ℕ} →
    Final m f (Swept m r b) marks → Final m f (Swept m (rank m p) (units m p).up) marks
asks start final = rw (start.ranked, start.up) final

-- the edge points of a spacing: every row below this one is final
pub record EdgeRows (m s : ℕ) (f : Point → ℕ) (marks : List ℕ) (y : ℕ) : Type 0 where
  pub row : ℕ
  pub times : y ≡ s * row
  pub even : row % 2 ≡ 0
  pub inside : y ≤ side m
  pub final : Final m f (Swept m (edge_rank m s) row) marks

-- the centres of a spacing: every row below this one is final, and this one begins with that kind
pub record CentreRows (m s : ℕ) (f : Point → ℕ) (marks : List ℕ) (y : ℕ) (k : Kind) : Type 0 where
  pub row : ℕ
  pub times : y ≡ s * row
  pub odd : row % 2 ≡ 1
  pub way : Way 1 row k
  pub final : Final m f (Swept m (centre_rank m s) row) marks

-- s is a power of two below N, and its own level is the exponent
pub power : {m s : ℕ} → Spacing m s → Power m s
power {m} {s} w = record { exponent = level m s s; power = w.power; below = w.below }

module _ {m s : ℕ} (w : Power m s) where
  -- its first centre
  middle : Placed m w.exponent 1 1 (at s s)
  middle = stands w (sym (mul-one s)) (sym (mul-one s)) (record { east = reaches w; north = reaches w }) (inl refl)

  pub levelled : level m s s ≡ w.exponent
  levelled = (measured middle).levelled

  pub spacing : Spacing m s
  spacing = record { power = rw levelled w.power; below = rw levelled w.below }

  -- the square is an even number of spacings wide
  pub half : ℕ
  half = (lattice middle).half

  pub wide : side m ≡ s * (2 * half)
  unfolding half
  wide = (lattice middle).wide ∙ ap (λ (n : ℕ). n * (2 * (lattice middle).half)) (sym w.power)

  module _ {a b x y : ℕ} (across : x ≡ s * a) (up : y ≡ s * b) (inside : Inside m (at x y)) {k : Kind} (way : Way a b k) where
    here : Placed m w.exponent a b (at x y)
    here = stands w across up inside (way_odd way)

    starts : {r : ℕ} → a ≤ 1 → 2 * w.exponent + centre_bit (odd a) (odd b) ≡ r → Start m s r b (at x y) k
    unfolding rank
    starts l e =
        let f = measured here in
        record {
          sited = sited here w.power way;
          first = rw f.across l;
          ranked = rw (f.levelled, f.across, f.up) e;
          up = f.up;
        }

  east_start : {b y : ℕ} → b % 2 ≡ 0 → y ≡ s * b → y ≤ side m → Start m s (edge_rank m s) b (at s y) EastWest
  east_start {b} e up l =
      starts (sym (mul-one s)) up (record { east = reaches w; north = l }) (row refl e) (omega arith)
      (rw (even_false b e, levelled) (omega arith))

  north_start : {b y : ℕ} → b % 2 ≡ 1 → y ≡ s * b → y ≤ side m → Start m s (edge_rank m s) b (at 0 y) NorthSouth
  north_start {b} o up l =
      starts (sym (mul-zero s)) up (record { east = omega arith; north = l }) (column refl o) (omega arith) (rw levelled (omega arith))

  centre_start : {b y : ℕ} {k : Kind} → b % 2 ≡ 1 → Way 1 b k → y ≡ s * b → y ≤ side m → Start m s (centre_rank m s) b (at s y) k
  centre_start {b} o way up l =
      starts (sym (mul-one s)) up (record { east = reaches w; north = l }) way (omega arith) (rw (odd_true b o, levelled) (omega arith))

  -- counted in spacings, a row before the square's border
  below : {b y : ℕ} → y ≡ s * b → y < side m → b < 2 * half
  below {b} {y} e l = by (dec_lt b (2 * half))
    where
      by : Dec (b < 2 * half) → b < 2 * half
      by (yes d) = d
      by (no d) = let far : s * (2 * half) ≤ s * b = mul-le-mul_left s (omega arith) in absurd (omega (arith, wide))

  up_to : (b : ℕ) → b ≤ 2 * half → s * b ≤ side m
  up_to b l = rw wide (mul-le-mul_left s l)

  -- from a rank's last row to the next rank
  next_rank : {a b c r : ℕ} {q : Point} {f : Point → ℕ} {marks : List ℕ} → Placed m w.exponent a b q → rank m q ≡ r → side m < s * c →
      Final m f (Swept m r c) marks → Final m f (Swept m (suc r) 0) marks
  next_rank {c = c} g e l final =
      let far : side m < 2 ^ w.exponent * c = rw w.power at l in
      rw e at (final_at (rw (← e) at final) (passed g c far))

  edge_rank_lem : rank m (at s 0) ≡ edge_rank m s
  edge_rank_lem = (east_start {b = 0} refl (sym (mul-zero s)) (omega arith)).ranked

  centre_rank_lem : rank m (at s s) ≡ centre_rank m s
  centre_rank_lem = (centre_start {b = 1} refl (rise refl refl refl) (sym (mul-one s)) (reaches w)).ranked

  module _ {f : Point → ℕ} {marks : List ℕ} {y : ℕ} (here : EdgeRows m s f marks y) where
    edge_room : y < side m → (y + s ≤ side m) × (y + 2 * s ≤ side m)
    edge_room l =
        let b : here.row < 2 * half = below here.times l in
        let far = up_to (suc (suc here.row)) (omega (arith, here.even)) in
        (omega (arith, two_on s here.row here.times), omega (arith, two_on s here.row here.times))

    pub edge_east : Start m s (edge_rank m s) here.row (at s y) EastWest
    edge_east = east_start here.even here.times here.inside

    pub edge_north : y < side m → Start m s (edge_rank m s) (suc here.row) (at 0 (y + s)) NorthSouth
    edge_north l =
        north_start (omega (arith, here.even)) (omega (arith, here.times, mul-suc s here.row)) (edge_room l).0

    pub edge_on : {after : List ℕ} → y < side m → Final m f (Swept m (edge_rank m s) (suc (suc here.row))) after →
        EdgeRows m s f after (y + 2 * s)
    edge_on l final =
        record {
          row = suc (suc here.row);
          times = two_on s here.row here.times;
          even = omega (arith, here.even);
          inside = (edge_room l).1;
          final = final;
        }

    -- the last row lies at the square's border
    pub edges_end : side m ≤ y → EdgeRows m s f marks (side m)
    edges_end l = let e : y ≡ side m = omega (arith, here.inside) in rw e at here

  pub edges_begin : {f : Point → ℕ} {marks : List ℕ} → Final m f (Swept m (edge_rank m s) 0) marks → EdgeRows m s f marks 0
  edges_begin final = record { row = 0; times = sym (mul-zero s); even = refl; inside = omega arith; final = final }

  pub last_row : Start m s (edge_rank m s) (2 * half) (at s (side m)) EastWest
  last_row = east_start (omega arith) wide (omega arith)

  pub edges_done : {f : Point → ℕ} {marks : List ℕ} → Final m f (Swept m (edge_rank m s) (suc (2 * half))) marks →
      Final m f (Swept m (centre_rank m s) 0) marks
  edges_done final = next_rank first edge_rank_lem (omega (arith, wide, mul-suc s (2 * half), positive)) final
    where
      first : Placed m w.exponent 1 0 (at s 0)
      first = stands w (sym (mul-one s)) (sym (mul-zero s)) (record { east = reaches w; north = omega arith }) (inl refl)

      positive : 0 < s
      positive = rw w.power (pow_pos w.exponent)

  -- there is no centre in an even row
  no_centre : {f : Point → ℕ} {marks : List ℕ} (c : ℕ) → c % 2 ≡ 0 → Final m f (Swept m (centre_rank m s) c) marks →
      Final m f (Swept m (centre_rank m s) (suc c)) marks
  no_centre c e final = rw centre_rank_lem at (final_at (rw (← centre_rank_lem) at final) (skipped middle refl refl c e))

  pub centres_begin : {f : Point → ℕ} {marks : List ℕ} → Final m f (Swept m (centre_rank m s) 0) marks → CentreRows m s f marks s Rising
  centres_begin final =
      record {
        row = 1;
        times = sym (mul-one s);
        odd = refl;
        way = rise refl refl refl;
        final = no_centre 0 refl final;
      }

  -- an odd row that is not inside lies beyond the border
  beyond : (b : ℕ) {y : ℕ} → y ≡ s * b → b % 2 ≡ 1 → side m ≤ y → side m < s * b
  beyond b e o l = by (dec_lt (2 * half) b)
    where
      by : Dec (2 * half < b) → side m < s * b
      by (yes d) =
          let far : s * suc (2 * half) ≤ s * b = mul-le-mul_left s d in
          let positive : 0 < s = rw w.power (pow_pos w.exponent) in
          omega (arith, wide, mul-suc s (2 * half))
      by (no d) =
          let less : b < 2 * half = omega arith in
          let near : s * suc b ≤ s * (2 * half) = mul-le-mul_left s less in
          let positive : 0 < s = rw w.power (pow_pos w.exponent) in
          absurd (omega (arith, wide, mul-suc s b))

  module _ {f : Point → ℕ} {marks : List ℕ} {y : ℕ} {k : Kind} (here : CentreRows m s f marks y k) where
    pub centre_here : y < side m → Start m s (centre_rank m s) here.row (at s y) k
    centre_here l = centre_start here.odd here.way here.times (omega arith)

    pub centre_on : {after : List ℕ} → Final m f (Swept m (centre_rank m s) (suc here.row)) after →
        CentreRows m s f after (y + 2 * s) (next_kind k)
    centre_on final =
        record {
          row = suc (suc here.row);
          times = two_on s here.row here.times;
          odd = omega (arith, here.odd);
          way = next_north here.way;
          final = no_centre (suc here.row) (omega (arith, here.odd)) final;
        }

    pub centre_last : side m ≤ y → Final m f (Swept m (suc (centre_rank m s)) 0) marks
    centre_last l = next_rank middle centre_rank_lem (beyond here.row here.times here.odd l) here.final
