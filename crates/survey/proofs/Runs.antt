-- Along a run each place is a step on from the one before, and heights stand where it went; and the points of a row that are runs, by
-- their kinds.
use mathlib.Core.Path.{◌≡◌, refl, sym, ap, ◌∙◌}
use mathlib.Core.Logic.{inl, ⊎_elim}
use mathlib.Core.List.{List}
use Prim.Native.Nat.{ℕ, suc, ◌+◌, ◌-◌, ◌*◌, ◌/◌, ◌%◌, ◌≤◌, ◌<◌}
use native.Mathlib.Nat.{mul-zero, mul-one, mul-suc, mul-add, mul_assoc, mul-le-mul, mul-le-mul_left, le-mul_of_pos_right}
use native.Mathlib.Decide.{ℕ_discrete, dec_lt}
use native.Mathlib.Omega.{arith}
use lib.IntN.{ℤ}
use Rattle.grid.specs.Grid.{Sound, side, samples, largest, widest, at, place, point, Inside}
use Rattle.grid.specs.Points.{kind}
use Rattle.grid.specs.Inner.{Power, Spread, CentreKind, reach_by, next_kind}
use Rattle.grid.specs.declared.points.Kind.{Kind}
use Rattle.grid.proofs.Around.{Way, row, column, rise, fall}
use Rattle.grid.proofs.Places.{side_small, place_below, point_place}
use Rattle.grid.proofs.Placed.{measured, kind_way}
use Rattle.grid.proofs.Powers.{spacing_small, stands, spread_at}
use Rattle.grid.proofs.Rows.{next_east, way_odd, centre_kind}
use Rattle.survey.specs.Inner.{depth, Stands, Partly, Swept, Run, RunFilled, Row, RowFilled}
use Rattle.survey.proofs.Partial.{partly_then, stays}

-- i is a place of the run, or where it ends, and before it heights stand
pub record Along (heights : List ℤ) (from step i : ℕ) : Type 0 where
  steps : ℕ
  place : i ≡ from + step * steps
  filled : (k : ℕ) → k < steps → Stands heights (from + step * k)

pub along_first : {from step : ℕ} (heights : List ℤ) → Along heights from step from
along_first {from} {step} heights = record { steps = 0; place = omega (arith, mul-zero step); filled = λ k l. absurd (omega arith) }

module _ {m from to step reach : ℕ} (run : Run m from to step reach) where
  module _ {heights : List ℤ} {i : ℕ} (here : Along heights from step i) where
    pub spread_here : i < to → Spread m (point m i) reach
    spread_here l = rw here.place (run.spread here.steps (rw here.place at l))

    pub deep_here : i < to → depth m (point m i) ≡ depth m (point m from)
    deep_here l = rw here.place (run.deep here.steps (rw here.place at l))

    pub along_on : {after : List ℤ} → i < to → Swept m heights after (Stands after i) → Along after from step (i + step)
    along_on {after} l now =
        record {
          steps = suc here.steps;
          place = omega (arith, here.place, mul-suc step here.steps);
          filled = λ k h. go k h (ℕ_discrete k here.steps);
        }
      where
        go : (k : ℕ) → k < suc here.steps → Dec (k ≡ here.steps) → Stands after (from + step * k)
        go k h (yes e) = rw (e, ← here.place) now.stand
        go k h (no d) =
            let back : step * k ≤ step * here.steps = mul-le-mul_left step (omega arith) in
            stays m heights after now.partly (from + step * k) (omega (arith, here.place, run.inside)) (here.filled k (omega arith))

    pub along_last : to ≤ i → RunFilled heights from to step
    along_last l k h = here.filled k (go (dec_lt k here.steps))
      where
        go : Dec (k < here.steps) → k < here.steps
        go (yes d) = d
        go (no d) =
            let on : step * here.steps ≤ step * k = mul-le-mul_left step (omega arith) in
            absurd (omega (arith, here.place))

  -- a run that was filled stays so
  run_stays : {a b : List ℤ} → Partly m a b → RunFilled a from to step → RunFilled b from to step
  run_stays {a} {b} part f k l = stays m a b part (from + step * k) (omega (arith, run.inside)) (f k l)

-- four columns on the kind is the same
fours_on : {a b : ℕ} {k : Kind} (i : ℕ) → Way a b k → Way (a + 4 * i) b k
fours_on i (row oa eb) = row (omega arith) eb
fours_on i (column ea ob) = column (omega arith) ob
fours_on i (rise oa ob t) = rise (omega arith) ob (omega arith)
fours_on i (fall oa ob t) = fall (omega arith) ob (omega arith)

-- s rows on are more than s columns
ups : (n s : ℕ) → s ≤ s * (n + 1)
ups n s = le-mul_of_pos_right s (omega arith)

-- from one centre to the next the reach changes
pub other_reach : {k : Kind} (n s : ℕ) → CentreKind k → reach_by (next_kind k) n s ≡ 2 * (s * (n + 1)) - reach_by k n s
other_reach n s c = ⊎_elim (λ e. rw e (omega arith)) (λ e. rw e (omega (arith, ups n s))) c

reach_most : {k : Kind} (n s : ℕ) → CentreKind k → reach_by k n s ≤ 2 * (s * (n + 1))
reach_most n s c = ⊎_elim (λ e. rw e (omega (arith, ups n s))) (λ e. rw e (omega arith)) c

-- of a row, the places from a first number of s on and by so many
module _ (m s y : ℕ) {n from step : ℕ} (first by : ℕ) (sided : n ≡ side m) (ef : from ≡ y * (n + 1) + s * first) (es : step ≡ s * by) where
  column_at : (i : ℕ) → from + step * i ≡ y * (side m + 1) + s * (first + by * i)
  column_at i = rw (ef, es, sided) (omega (arith, mul-add s first (by * i), mul_assoc s by i))

  -- where they are filled, heights stand at the row's points
  run_row : (heights : List ℤ) {to : ℕ} → to ≡ y * (n + 1) + (n + 1) → RunFilled heights from to step →
      (i : ℕ) → Inside m (at (s * (first + by * i)) y) → Stands heights (place m (at (s * (first + by * i)) y))
  unfolding place
  run_row heights et f i h =
      let below : s * (first + by * i) ≤ side m = h.east in
      rw (column_at i) at (f i (rw (et, sided) (omega (arith, column_at i))))

module _ {m s y b : ℕ} (w : Power m s) (small : m ≤ largest) (up : y ≡ s * b) (inside : y ≤ side m) where
  -- of a row, the points from a first number of s on and by so many
  module _ {n from to step reach : ℕ} (first by : ℕ) {k : Kind} (way : (i : ℕ) → Way (first + by * i) b k) (sided : n ≡ side m)
      (ef : from ≡ y * (n + 1) + s * first) (et : to ≡ y * (n + 1) + (n + 1)) (es : step ≡ s * by) (er : reach ≡ reach_by k n s) where
    within : (i : ℕ) → from + step * i < to → Inside m (at (s * (first + by * i)) y)
    within i l =
        let east : s * (first + by * i) ≤ side m = omega (arith, column_at m s y first by sided ef es i, et, ap (λ (c : ℕ). y * (c + 1)) sided) in
        record { east = east; north = inside }

    named : (i : ℕ) → from + step * i < to → point m (from + step * i) ≡ at (s * (first + by * i)) y
    unfolding place
    named i l = rw (column_at m s y first by sided ef es i) (point_place m (at (s * (first + by * i)) y) (within i l))

    there : (i : ℕ) → from + step * i < to → Spread m (point m (from + step * i)) reach
    there i l = rw (named i l, er, sided) (spread_at w refl up (within i l) (way i))

    -- they have one spacing
    deep : (i : ℕ) → from + step * i < to → depth m (point m (from + step * i)) ≡ m - w.exponent
    deep i l =
        rw (named i l) (ap (λ (j : ℕ). m - j) (measured (stands w refl up (within i l) (way_odd (way i)))).levelled)

    row_run : 0 < by → by ≤ 4 → Run m from to step reach
    unfolding place
    row_run on four =
        let few = spacing_small w small in
        let most : s * by ≤ s * 4 = mul-le-mul_left s four in
        let some : s ≤ s * by = le-mul_of_pos_right s on in
        record {
          on = omega (arith, es);
          short = omega (arith, es);
          inside = rw (et, sided) (omega (arith, place_below m (at (side m) y) (record { east = omega arith; north = inside })));
          spread = there;
          deep = λ i l.
              let first : from + step * 0 ≡ from = omega (arith, mul-zero step) in
              deep i l ∙ sym (rw first at (deep 0 (omega (arith, mul-zero step))));
        }

-- the sums and products that are formed along a row
pub record Small (n s y : ℕ) : Type 0 where
  pub some : 0 < s
  pub spacing : s ≤ widest
  pub wide : n ≤ widest
  pub row : y * (n + 1) ≤ samples largest
  pub up : s * (n + 1) ≤ samples largest
  pub more : s ≤ s * (n + 1)

module _ {m n : ℕ} {s y : ℕ} (sound : Sound m n) (w : Power m s) where
  pub small : y ≤ side m → Small n s y
  small l =
      let few = spacing_small w sound.small in
      let wide : n ≤ widest = rw sound.sided (side_small sound.small) in
      let row : n + 1 ≤ widest + 1 = omega arith in
      let high : y ≤ widest + 1 = omega (arith, side_small sound.small) in
      let far : s ≤ widest + 1 = omega arith in
      record {
        some = few.0;
        spacing = few.1;
        wide = wide;
        row = mul-le-mul high row;
        up = mul-le-mul far row;
        more = ups n s;
      }

  -- in an even row, the edge points
  pub even_run : y ≤ side m → Row s 0 y → Run m (y * (n + 1) + s) (y * (n + 1) + (n + 1)) (2 * s) s
  even_run l r =
      row_run w sound.small r.times l 1 2 (λ i. row (omega arith) r.is) sound.sided (omega arith) refl (omega arith) refl
      (omega arith) (omega arith)

  -- in an odd row, the edge points; and the centres, from the first on and from the second on
  module _ (r : Row s 1 y) {reach : ℕ} (h : Spread m (at s y) reach) where
    pub odd_run : Run m (y * (n + 1)) (y * (n + 1) + (n + 1)) (2 * s) (s * (n + 1))
    odd_run =
        row_run w sound.small r.times h.inside.north 0 2 (λ i. column (omega arith) r.is) sound.sided (omega arith) refl (omega arith) refl
        (omega arith) (omega arith)

    abbrev first : Kind
    first = kind m (at s y)

    way : Way 1 r.number first
    way = kind_way (stands w (sym (mul-one s)) r.times h.inside (inl refl))

    centre : CentreKind first
    centre = centre_kind r.is way

    reached : reach ≡ reach_by first n s
    reached =
        let f = measured (stands w {a = 1} (sym (mul-one s)) r.times h.inside (inl refl)) in
        h.reached ∙ (λ i. reach_by first (sym sound.sided i) ((f.spaced ∙ sym w.power) i))

    pub reach_small : reach ≤ 2 * (s * (n + 1))
    reach_small = rw reached (reach_most n s centre)

    pub first_run : Run m (y * (n + 1) + s) (y * (n + 1) + (n + 1)) (4 * s) reach
    first_run =
        row_run w sound.small r.times h.inside.north 1 4 (λ i. fours_on i way) sound.sided (omega arith) refl (omega arith) reached
        (omega arith) (omega arith)

    pub second_run : Run m (y * (n + 1) + 3 * s) (y * (n + 1) + (n + 1)) (4 * s) (2 * (s * (n + 1)) - reach)
    second_run =
        row_run w sound.small r.times h.inside.north 3 4 (λ i. fours_on i (next_east way)) sound.sided (omega arith) refl (omega arith)
        (rw reached (sym (other_reach n s centre))) (omega arith) (omega arith)

-- the runs of a row are its points of spacing s
module _ (m s y : ℕ) {n : ℕ} (heights : List ℤ) (sided : n ≡ side m) where
  even_filled : RunFilled heights (y * (n + 1) + s) (y * (n + 1) + (n + 1)) (2 * s) → RowFilled m heights s 0 y
  even_filled f a o h = ⊎_elim go (λ e. absurd (omega arith)) o
    where
      go : a % 2 ≡ 1 → Stands heights (place m (at (s * a) y))
      go odd =
          let e : 1 + 2 * (a / 2) ≡ a = omega arith in
          rw e at (run_row m s y 1 2 sided (omega arith) (omega arith) heights refl f (a / 2) (rw e h))

  odd_filled : RunFilled heights (y * (n + 1)) (y * (n + 1) + (n + 1)) (2 * s) →
      RunFilled heights (y * (n + 1) + s) (y * (n + 1) + (n + 1)) (4 * s) → RunFilled heights (y * (n + 1) + 3 * s) (y * (n + 1) + (n + 1)) (4 * s) →
      RowFilled m heights s 1 y
  odd_filled edges firsts seconds a o h = go (ℕ_discrete (a % 2) 0) (ℕ_discrete (a % 4) 1)
    where
      go : Dec (a % 2 ≡ 0) → Dec (a % 4 ≡ 1) → Stands heights (place m (at (s * a) y))
      go (yes even) d =
          let e : 0 + 2 * (a / 2) ≡ a = omega arith in
          rw e at (run_row m s y 0 2 sided (omega arith) (omega arith) heights refl edges (a / 2) (rw e h))
      go (no odd) (yes d) =
          let e : 1 + 4 * (a / 4) ≡ a = omega arith in
          rw e at (run_row m s y 1 4 sided (omega arith) (omega arith) heights refl firsts (a / 4) (rw e h))
      go (no odd) (no d) =
          let e : 3 + 4 * (a / 4) ≡ a = omega arith in
          rw e at (run_row m s y 3 4 sided (omega arith) (omega arith) heights refl seconds (a / 4) (rw e h))

module _ {m n : ℕ} {s y : ℕ} {a b : List ℤ} (sound : Sound m n) where
  pub even_swept : Row s 0 y → Swept m a b (RunFilled b (y * (n + 1) + s) (y * (n + 1) + (n + 1)) (2 * s)) →
      Swept m a b (RowFilled m b s 0 y)
  even_swept r f = record { partly = f.partly; stand = even_filled m s y b sound.sided f.stand }

  module _ {reach : ℕ} {c d : List ℤ} (w : Power m s) (r : Row s 1 y) (h : Spread m (at s y) reach) where
    pub odd_swept : Swept m a b (RunFilled b (y * (n + 1)) (y * (n + 1) + (n + 1)) (2 * s)) →
        Swept m b c (RunFilled c (y * (n + 1) + s) (y * (n + 1) + (n + 1)) (4 * s)) →
        Swept m c d (RunFilled d (y * (n + 1) + 3 * s) (y * (n + 1) + (n + 1)) (4 * s)) →
        Swept m a d (RowFilled m d s 1 y)
    odd_swept edges firsts seconds =
        let after = partly_then m b c d firsts.partly seconds.partly in
        record {
          partly = partly_then m a b d edges.partly after;
          stand =
              odd_filled m s y d sound.sided
              (run_stays (odd_run sound w r h) after edges.stand)
              (run_stays (first_run sound w r h) seconds.partly firsts.stand)
              seconds.stand;
        }
