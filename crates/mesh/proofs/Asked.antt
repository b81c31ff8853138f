-- What the functions that ask line by line ask of one another, and what they are told: strides of edge points, and of centres.
use mathlib.Core.Path.{◌≡◌}
use mathlib.Core.Bool.{Bool, true, false, cond, not}
use mathlib.Core.List.{List}
use Prim.Native.Nat.{ℕ, ◌+◌, ◌-◌, ◌*◌, ◌%◌, ◌≤◌, ◌<◌}
use native.Mathlib.Nat.{mul-one, mul-le-mul, le-mul_of_pos_right}
use native.Mathlib.Omega.{arith}
use lib.Dec.{leb}
use lib.Pow.{pow_mono}
use Rattle.grid.specs.Grid.{side, samples, largest, widest, at}
use Rattle.grid.specs.Points.{laid}
use Rattle.grid.proofs.Places.{side_small}
use Rattle.grid.specs.Inner.{Power}
use Rattle.grid.proofs.Powers.{spacing_small}
use Rattle.mesh.specs.declared.good.GoodMarks.{GoodMarks}
use Rattle.mesh.specs.Closed.{kept_by}
use Rattle.std.specs.Bool.{Decides}
use Rattle.mesh.specs.Inner.{BackedAlong, Stride, unit, Line, CentreRow, Across, LineClosed}
use Rattle.mesh.proofs.Strides.{unit_positive, Looked, edge_looked, centre_looked, stride, told_stride}
use Rattle.mesh.proofs.Lines.{Told, across_most, across_on, across_by, line_told}

unit_small : (m : ℕ) (t : Bool) → unit m t ≤ side m + 1
unit_small m true = omega arith
unit_small m false = omega arith

-- a number of places along a line stays small
units_small : {m a u : ℕ} (t : Bool) → m ≤ largest → a ≤ side m → u ≡ unit m t → a * u ≤ samples largest
units_small {m} {a} t small l e =
    let long : a ≤ widest + 1 = omega (arith, side_small small) in
    let wide : unit m t ≤ widest + 1 = omega (arith, unit_small m t, side_small small) in
    rw e (mul-le-mul long wide)

-- the sums and products that are formed along the line c
pub record LineSmall (n s c u v : ℕ) : Type 0 where
  pub at : c * v ≤ samples largest
  pub on : s * u ≤ samples largest
  pub beside : s * v ≤ samples largest
  pub far : n * u ≤ samples largest
  pub next : c + s ≤ 2 * widest

-- n is N, as the code has it
module _ (v : GoodMarks) {n : ℕ} (sided : n ≡ side v.grid.m) {s : ℕ} (w : Power v.grid.m s) where
  abbrev m : ℕ
  m = v.grid.m

  abbrev marks : List ℕ
  marks = v.bytes.now

  pub spaced_small : (0 < s) × (s ≤ widest) × (s ≤ side m) × (n ≤ widest)
  spaced_small =
      let few = spacing_small w v.grid.sound.small in
      (few.0, few.1, rw w.power (pow_mono (omega (arith, w.below))), rw sided (side_small v.grid.sound.small))

  pub line_small : (turned : Bool) {c u b : ℕ} → c ≤ side m → u ≡ unit m turned → b ≡ unit m (not turned) →
      LineSmall n s c u b
  line_small turned l eu ev =
      let small = v.grid.sound.small in
      let few = spaced_small in
      record {
        at = units_small (not turned) small l ev;
        on = units_small turned small few.2 eu;
        beside = units_small (not turned) small few.2 ev;
        far = rw sided (units_small turned small (omega arith) eu);
        next = omega (arith, side_small small);
      }

  -- the edge points of a line, every second number of s from 1 on
  module _ (turned : Bool) {c : ℕ} (line : Line m s 0 c) {u b before after : ℕ} (eu : u ≡ unit m turned)
      (ev : b ≡ unit m (not turned)) (eb : before ≡ cond (leb s c) (s * b) 0) (ea : after ≡ cond (leb (c + s) n) (s * b) 0) where
    looked : (k : ℕ) → s * (1 + 2 * k) < side m → Looked m marks (laid turned (s * (1 + 2 * k)) c) before after
    looked k l =
        rw (eb, ea, ev, sided, line.times)
        (edge_looked w marks turned (1 + 2 * k) line.number (omega arith) line.is (omega arith) (rw line.times at line.inside))

    from_is : c * b + s * u ≡ c * unit m (not turned) + 1 * (s * unit m turned)
    from_is = rw (eu, ev) (omega arith)

    to_is : c * b + n * u ≡ c * unit m (not turned) + side m * unit m turned
    to_is = rw (eu, ev, sided)

    step_is : 2 * (s * u) ≡ 2 * (s * unit m turned)
    step_is = rw eu

    pub edge_stride : Stride marks (c * b + s * u) (c * b + n * u) (2 * (s * u)) before after
    edge_stride =
        let some : s ≤ s * u = rw eu (le-mul_of_pos_right s (unit_positive m turned)) in
        stride w turned c 1 2 from_is to_is step_is v.whole looked
        (omega (arith, spaced_small, some)) (omega (arith, line_small turned line.inside eu ev)) v.grid.sound.small

    pub edge_told : {r : Bool} → Decides r (BackedAlong marks (c * b + s * u) (c * b + n * u) (2 * (s * u)) before after) →
        Decides r (LineClosed m (kept_by m marks) s turned c)
    edge_told t = line_told w (kept_by m marks) turned c (told_stride w turned c 1 2 from_is to_is step_is v.whole looked t)

  -- s rows on
  pub ups_small : (s ≤ s * (n + 1)) × (s * (n + 1) ≤ samples largest)
  ups_small = (le-mul_of_pos_right s (omega arith), units_small true v.grid.sound.small spaced_small.2 (rw sided))

  -- and those of a row of centres
  pub row_small : {y d : ℕ} → CentreRow m s y d → (y * (n + 1) ≤ samples largest) × (s * (n + 1) ≤ samples largest) × (d ≤ 2 * (s * (n + 1)))
  row_small row =
      let ups : n + 1 ≡ unit m true = rw sided in
      (units_small true v.grid.sound.small row.line.inside ups, ups_small.1, rw sided (across_most row.across))

  pub other_across : {y d : ℕ} (row : CentreRow m s y d) → Across (side m) s (3 + row.line.number) (2 * (s * (n + 1)) - d)
  other_across row = rw sided (across_on (omega arith) row.across)

  -- the centres of a row, every fourth number of s from a first one on
  module _ {y d : ℕ} (line : Line m s 1 y) (first : ℕ) (odd : first % 2 ≡ 1) (across : Across (side m) s (first + line.number) d)
      {from : ℕ} (ef : from ≡ y * (n + 1) + first * s) where
    centres : (k : ℕ) → s * (first + 4 * k) < side m → Looked m marks (at (s * (first + 4 * k)) y) d d
    centres k l =
        rw line.times
        (centre_looked w marks (first + 4 * k) line.number (omega arith) line.is (omega arith) (rw line.times at line.inside)
        (across_by (omega arith) across))

    centre_from : from ≡ y * (side m + 1) + first * (s * 1)
    centre_from = rw (mul-one s) (rw sided at ef)

    centre_to : y * (n + 1) + n ≡ y * (side m + 1) + side m * 1
    centre_to = rw (sided, mul-one (side m))

    centre_step : 4 * s ≡ 4 * (s * 1)
    centre_step = rw (mul-one s)

    pub centre_stride : Stride marks from (y * (n + 1) + n) (4 * s) d d
    centre_stride =
        stride w false y first 4 centre_from centre_to centre_step v.whole centres
        (omega (arith, spaced_small)) (omega (arith, spaced_small)) v.grid.sound.small

    pub centre_told : {r : Bool} → Decides r (BackedAlong marks from (y * (n + 1) + n) (4 * s) d d) →
        Decides r (Told w (kept_by m marks) false y first 4)
    centre_told t = told_stride w false y first 4 centre_from centre_to centre_step v.whole centres t
