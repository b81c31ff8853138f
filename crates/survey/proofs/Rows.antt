-- From row to row of a spacing, and from each spacing to half of it: what is behind is filled.
use mathlib.Core.Path.{◌≡◌, refl, sym}
use mathlib.Core.List.{List}
use Prim.Native.Nat.{ℕ, suc, ◌+◌, ◌-◌, ◌*◌, ◌^◌, ◌%◌, ◌≤◌, ◌<◌}
use native.Mathlib.Decide.{ℕ_discrete, dec_lt}
use native.Mathlib.Nat.{mul-one, mul-le-mul_left}
use native.Mathlib.Omega.{arith}
use lib.IntN.{ℤ}
use Rattle.grid.specs.Grid.{side, at, place}
use Rattle.grid.specs.Inner.{Power, Spread, CentreKind, reach_by, next_kind}
use Rattle.grid.specs.declared.points.Kind.{Kind}
use Rattle.grid.specs.declared.points.Kind.TheVariants.{Rising}
use Rattle.grid.proofs.Around.{Way, rise}
use Rattle.grid.proofs.Places.{place_below}
use Rattle.grid.proofs.Powers.{reaches, two_on, spread_at}
use Rattle.grid.proofs.Rows.{next_north, centre_kind}
use Rattle.survey.specs.Inner.{Stands, Partly, Swept, Row, RowFilled, RowsFilled}
use Rattle.survey.proofs.Partial.{partly_then, stays}
use Rattle.survey.proofs.Runs.{other_reach}

pub row_on : {s parity y : ℕ} → Row s parity y → Row s parity (y + 2 * s)
row_on {s} r = record { number = suc (suc r.number); times = two_on s r.number r.times; is = omega (arith, r.is) }

-- a row that was filled stays so
row_stays : {m : ℕ} {a b : List ℤ} (s parity y : ℕ) → Partly m a b → RowFilled m a s parity y → RowFilled m b s parity y
row_stays {m} {a} {b} s parity y part f k o h = stays m a b part (place m (at (s * k) y)) (place_below m (at (s * k) y) h) (f k o h)

rows_stay : {m : ℕ} {a b : List ℤ} (s parity : ℕ) → Partly m a b → RowsFilled m a s parity → RowsFilled m b s parity
rows_stay s parity part f k o = row_stays s parity (s * k) part (f k o)

-- y is a row, and those before it are filled
pub record Passed (m : ℕ) (heights : List ℤ) (s parity y : ℕ) : Type 0 where
  pub row : Row s parity y
  before : (b : ℕ) → b % 2 ≡ parity → b < row.number → RowFilled m heights s parity (s * b)

pub passed_first : {s parity y : ℕ} (m : ℕ) (heights : List ℤ) → y ≡ s * parity → parity < 2 → Passed m heights s parity y
passed_first {parity = parity} m heights e l =
    record { row = record { number = parity; times = e; is = omega arith }; before = λ b o h. absurd (omega arith) }

module _ {m s parity y : ℕ} {heights : List ℤ} (here : Passed m heights s parity y) where
  pub passed_on : {after : List ℤ} → Swept m heights after (RowFilled m after s parity y) → Passed m after s parity (y + 2 * s)
  unfolding row_on
  passed_on {after} f = record { row = row_on here.row; before = λ b o l. go b o l (dec_lt b here.row.number) }
    where
      go : (b : ℕ) → b % 2 ≡ parity → b < suc (suc here.row.number) → Dec (b < here.row.number) → RowFilled m after s parity (s * b)
      go b o l (yes d) = row_stays s parity (s * b) f.partly (here.before b o d)
      go b o l (no d) = let e : here.row.number ≡ b = omega (arith, here.row.is) in rw (here.row.times, e) at f.stand

  pub passed_last : side m < y → RowsFilled m heights s parity
  passed_last l b o a p h = go (dec_lt b here.row.number)
    where
      go : Dec (b < here.row.number) → Stands heights (place m (at (s * a) (s * b)))
      go (yes d) = here.before b o d a p h
      go (no d) =
          let far : s * here.row.number ≤ s * b = mul-le-mul_left s (omega arith) in
          let near : s * b ≤ side m = h.north in
          absurd (omega (arith, here.row.times))

-- and so is an odd row, whose first centre has its ends reach places before and behind it
pub record OddRow (m : ℕ) (heights : List ℤ) (s y reach : ℕ) : Type 0 where
  pub passed : Passed m heights s 1 y
  first : Kind
  way : Way 1 passed.row.number first
  reached : reach ≡ reach_by first (side m) s

module _ {m s : ℕ} (w : Power m s) where
  pub odd_first : {reach : ℕ} (heights : List ℤ) → reach ≡ s * (side m + 1) + s → OddRow m heights s s reach
  unfolding passed_first
  odd_first heights e =
      record { passed = passed_first m heights (sym (mul-one s)) (omega arith); first = Rising; way = rise refl refl refl; reached = e }

  module _ {y reach : ℕ} {heights : List ℤ} (here : OddRow m heights s y reach) where
    centre : CentreKind here.first
    centre = centre_kind here.passed.row.is here.way

    pub odd_spread : y ≤ side m → Spread m (at s y) reach
    odd_spread l =
        rw here.reached
        (spread_at w (sym (mul-one s)) here.passed.row.times (record { east = reaches w; north = l }) here.way)

    pub odd_on : {after : List ℤ} → Swept m heights after (RowFilled m after s 1 y) →
        OddRow m after s (y + 2 * s) (2 * (s * (side m + 1)) - reach)
    unfolding passed_on row_on
    odd_on f =
        record {
          passed = passed_on here.passed f;
          first = next_kind here.first;
          way = next_north here.way;
          reached = rw here.reached (sym (other_reach (side m) s centre));
        }

-- both in even and in odd rows
abbrev pub SpacingFilled : ℕ → List ℤ → ℕ → Type 0
SpacingFilled m heights s = RowsFilled m heights s 0 × RowsFilled m heights s 1

-- the spacings from 2^k on are filled
pub record Coarser (m : ℕ) (heights : List ℤ) (k : ℕ) : Type 0 where
  pub filled : (j : ℕ) → k ≤ j → j < m → SpacingFilled m heights (2 ^ j)

-- and so is the one before them
pub coarser_on : {m k s : ℕ} {before between after : List ℤ} → 0 < k → s ≡ 2 ^ (k - 1) → Coarser m before k →
    Swept m before between (RowsFilled m between s 0) → Swept m between after (RowsFilled m after s 1) → Coarser m after (k - 1)
coarser_on {m} {k} {s} {before} {between} {after} some e here even odd = record { filled = λ j l h. go j l h (ℕ_discrete j (k - 1)) }
  where
    part : Partly m before after
    part = partly_then m before between after even.partly odd.partly

    go : (j : ℕ) → k - 1 ≤ j → j < m → Dec (j ≡ k - 1) → SpacingFilled m after (2 ^ j)
    go j l h (yes same) = rw (same, ← e) (rows_stay s 0 odd.partly even.stand, odd.stand)
    go j l h (no other) =
        let f = here.filled j (omega arith) h in (rows_stay (2 ^ j) 0 part f.0, rows_stay (2 ^ j) 1 part f.1)
