-- The kind of a point by the parities of its units: which is odd, and for a centre whether their halves are alike.
-- `sort` gives the kind of a point that is no grid corner together with those parities.
use mathlib.Core.Path.{◌≡◌, ap, ◌∙◌}
use mathlib.Core.Bool.{true, false}
use mathlib.Core.Logic.{◌≢◌, ⊎_elim}
use Prim.Native.Nat.{ℕ, ◌-◌, ◌*◌, ◌/◌, ◌%◌, ◌<◌}
use native.Mathlib.Decide.{ℕ_discrete}
use native.Mathlib.Omega.{arith}
use borrow.Author.Tests.{eq-eqb, ne_eqb}
use lib.Dec.{eqb}
use Rattle.grid.specs.Grid.{at, Inside}
use Rattle.grid.specs.Points.{units, spacing, is_corner, kind, alike, odd}
use Rattle.grid.specs.declared.points.Point.{Point}
use Rattle.grid.specs.declared.points.Kind.TheVariants.{Corner, EastWest, NorthSouth, Rising, Falling}
use Rattle.grid.proofs.Spaced.{View, view, east_units, north_units, spacing_positive, before}

pub even_false : (n : ℕ) → n % 2 ≡ 0 → odd n ≡ false
even_false n e = ne_eqb (n % 2) 1 (λ o. omega arith)

pub odd_true : (n : ℕ) → n % 2 ≡ 1 → odd n ≡ true
odd_true n o = eq-eqb (n % 2) 1 o

module _ (m : ℕ) (p : Point) where
  pub kind_corner : is_corner m p ≡ true → kind m p ≡ Corner
  unfolding kind
  kind_corner e = rw e

  -- the south-west neighbour of a centre, in units of 2s
  alike_halves : (units m p).across % 2 ≡ 1 → (units m p).up % 2 ≡ 1 →
      alike (spacing m p) (at (p.x - spacing m p) (p.y - spacing m p)) ≡ eqb ((units m p).across / 2 % 2) ((units m p).up / 2 % 2)
  alike_halves oa ou =
      let s = spacing m p in
      let pos : 0 < s = spacing_positive m p in
      let ex : (p.x - s) / (2 * s) ≡ (units m p).across / 2 =
      ap (λ (n : ℕ). (n - s) / (2 * s)) (east_units m p) ∙ before s (units m p).across pos oa in
      let ey : (p.y - s) / (2 * s) ≡ (units m p).up / 2 =
      ap (λ (n : ℕ). (n - s) / (2 * s)) (north_units m p) ∙ before s (units m p).up pos ou in
      λ i. eqb (ex i % 2) (ey i % 2)

  module _ (inner : is_corner m p ≡ false) where
    pub kind_north_south : (units m p).across % 2 ≡ 0 → kind m p ≡ NorthSouth
    unfolding kind
    kind_north_south e = rw (inner, even_false (units m p).across e)

    pub kind_east_west : (units m p).across % 2 ≡ 1 → (units m p).up % 2 ≡ 0 → kind m p ≡ EastWest
    unfolding kind
    kind_east_west oa eu = rw (inner, odd_true (units m p).across oa, even_false (units m p).up eu)

    pub kind_rising : (units m p).across % 2 ≡ 1 → (units m p).up % 2 ≡ 1 →
        (units m p).across / 2 % 2 ≡ (units m p).up / 2 % 2 → kind m p ≡ Rising
    unfolding kind
    kind_rising oa ou e =
        rw (
          inner,
          odd_true (units m p).across oa,
          odd_true (units m p).up ou,
          alike_halves oa ou,
          eq-eqb ((units m p).across / 2 % 2) ((units m p).up / 2 % 2) e,
        )

    pub kind_falling : (units m p).across % 2 ≡ 1 → (units m p).up % 2 ≡ 1 →
        (units m p).across / 2 % 2 ≢ (units m p).up / 2 % 2 → kind m p ≡ Falling
    unfolding kind
    kind_falling oa ou e =
        rw (
          inner,
          odd_true (units m p).across oa,
          odd_true (units m p).up ou,
          alike_halves oa ou,
          ne_eqb ((units m p).across / 2 % 2) ((units m p).up / 2 % 2) e,
        )

-- the kind of a point, with the parities of its units
pub data Sort (m : ℕ) (p : Point) : Type 0 where
  east_west : kind m p ≡ EastWest → (units m p).across % 2 ≡ 1 → (units m p).up % 2 ≡ 0 → Sort m p
  north_south : kind m p ≡ NorthSouth → (units m p).across % 2 ≡ 0 → (units m p).up % 2 ≡ 1 → Sort m p
  rising : kind m p ≡ Rising → (units m p).across % 2 ≡ 1 → (units m p).up % 2 ≡ 1 →
      (units m p).across / 2 % 2 ≡ (units m p).up / 2 % 2 → Sort m p
  falling : kind m p ≡ Falling → (units m p).across % 2 ≡ 1 → (units m p).up % 2 ≡ 1 →
      (units m p).across / 2 % 2 ≢ (units m p).up / 2 % 2 → Sort m p

sort_by : (m : ℕ) (p : Point) → is_corner m p ≡ false → View m p → Dec ((units m p).across % 2 ≡ 1) → Dec ((units m p).up % 2 ≡ 1) →
    Dec ((units m p).across / 2 % 2 ≡ (units m p).up / 2 % 2) → Sort m p
sort_by m p inner v (no e) d f =
    north_south (kind_north_south m p inner (omega arith)) (omega arith) (⊎_elim (λ o. absurd (e o)) (λ o. o) v.odd)
sort_by m p inner v (yes e) (no d) f = east_west (kind_east_west m p inner e (omega arith)) e (omega arith)
sort_by m p inner v (yes e) (yes d) (yes f) = rising (kind_rising m p inner e d f) e d f
sort_by m p inner v (yes e) (yes d) (no f) = falling (kind_falling m p inner e d f) e d f

pub sort : (m : ℕ) (p : Point) → Inside m p → is_corner m p ≡ false → Sort m p
sort m p h inner =
    sort_by m p inner (view m p h inner) (ℕ_discrete ((units m p).across % 2) 1) (ℕ_discrete ((units m p).up % 2) 1)
    (ℕ_discrete ((units m p).across / 2 % 2) ((units m p).up / 2 % 2))
