-- Line by line and spacing by spacing: each point that is no grid corner lies in one of the lines that are asked, so what is told of
-- the lines is told of all points. A grid corner depends on nothing.
use mathlib.Core.Path.{◌≡◌, refl, sym, ◌∙◌}
use mathlib.Core.Bool.{Bool, true, false, not, ◌&&◌, or-true, and-eq-true_iff}
use Prim.Native.Nat.{ℕ, suc, ◌+◌, ◌-◌, ◌*◌, ◌^◌, ◌/◌, ◌%◌, ◌≤◌, ◌<◌}
use native.Mathlib.Nat.{mul-one, mul-le-mul_left, le-mul_of_pos_right}
use native.Mathlib.Decide.{ℕ_discrete, dec_lt}
use native.Mathlib.Omega.{arith}
use Rattle.grid.specs.Grid.{side, at, Inside}
use Rattle.grid.specs.Points.{is_corner, level, laid, depends_on}
use Rattle.grid.specs.declared.points.Point.{Point}
use Rattle.grid.specs.declared.points.Kind.{Kind}
use Rattle.grid.proofs.Around.{Way, row, column, rise, fall, same_point}
use Rattle.grid.proofs.Parity.{kind_corner}
use Rattle.grid.proofs.Placed.{Placed, placed, kind_way}
use Rattle.grid.specs.Inner.{Power}
use Rattle.grid.proofs.Powers.{two_on, positive}
use lib.ListN.{length, get_or}
use Rattle.grid.proofs.Sums.{false_by}
use Rattle.std.specs.List.{AllWithin, HoldsAt, range_with_len}
use Rattle.std.proofs.lemmas.List.FromFn.{length-range_with_len, get_or-range_with_len}
use Rattle.mesh.specs.Triangles.{points}
use Rattle.mesh.specs.Closed.{every, supported}
use Rattle.std.specs.Bool.{Decides, MatchBool}
use Rattle.mesh.specs.Inner.{Line, CentreRow, Across, falls, rises, LineClosed, LinesClosed, SpacingClosed}
use Rattle.mesh.proofs.Every.{every_point}
use Rattle.mesh.proofs.Strides.{odd_reach}

-- told of one claim and of another
pub tells_as : {r : Bool} {P Q : Type 0} → Decides r P → (P → Q) → (Q → P) → Decides r Q
tells_as t f g = (λ e. f (t.0 e), λ q. t.1 (g q))

pub tells_both : {r v : Bool} {P Q : Type 0} → Decides r P → Decides v Q → Decides (r && v) (P × Q)
tells_both {r} {v} t u =
    let both = and-eq-true_iff r v in
    (λ e. let w = both.0 e in (t.0 w.0, u.0 w.1), λ pq. both.1 (t.1 pq.0, u.1 pq.1))

-- the lines before that of a number are closed
abbrev LinesBefore : ℕ → ℕ → (Point → Bool) → Bool → ℕ → ℕ → Type 0
LinesBefore m s kept turned parity number =
    (b : ℕ) → b % 2 ≡ parity → b < number → s * b ≤ side m → LineClosed m kept s turned (s * b)

-- all tells whether those before c are
pub record Passed (m s : ℕ) (kept : Point → Bool) (turned : Bool) (parity c : ℕ) (all : Bool) : Type 0 where
  pub number : ℕ
  pub times : c ≡ s * number
  pub is : number % 2 ≡ parity
  pub closed : Decides all (LinesBefore m s kept turned parity number)

module _ {m s : ℕ} (w : Power m s) (kept : Point → Bool) (turned : Bool) where
  -- an odd number of s that is at most N is below it
  odd_below : (a : ℕ) → a % 2 ≡ 1 → s * a ≤ side m → s * a < side m
  odd_below a o l = omega (arith, positive w, odd_reach w a o l)

  module _ (c : ℕ) where
    -- what a stride of a line tells: of every so many numbers from a first
    abbrev pub Told : ℕ → ℕ → Type 0
    Told first by = (k : ℕ) → s * (first + by * k) < side m → supported m kept (laid turned (s * (first + by * k)) c) ≡ true

    strided : (first by : ℕ) → ((k : ℕ) → (first + by * k) % 2 ≡ 1) → LineClosed m kept s turned c → Told first by
    strided first by o f k l = f (first + by * k) (o k) (omega arith)

    -- the odd numbers: every second from 1
    pub line_told : {r : Bool} → Decides r (Told 1 2) → Decides r (LineClosed m kept s turned c)
    line_told t = tells_as t from (strided 1 2 (λ k. omega arith))
      where
        from : Told 1 2 → LineClosed m kept s turned c
        from f a o l = let e : 1 + 2 * (a / 2) ≡ a = omega arith in rw e at (f (a / 2) (rw e (odd_below a o l)))

    -- or every fourth from 1, and every fourth from 3
    halves : Told 1 4 × Told 3 4 → LineClosed m kept s turned c
    halves f a o l = go (ℕ_discrete (a % 4) 1)
      where
        go : Dec (a % 4 ≡ 1) → supported m kept (laid turned (s * a) c) ≡ true
        go (yes h) = let e : 1 + 4 * (a / 4) ≡ a = omega arith in rw e at (f.0 (a / 4) (rw e (odd_below a o l)))
        go (no h) = let e : 3 + 4 * (a / 4) ≡ a = omega arith in rw e at (f.1 (a / 4) (rw e (odd_below a o l)))

    pub line_halves : {r v : Bool} → Decides r (Told 1 4) → Decides v (Told 3 4) → Decides (r && v) (LineClosed m kept s turned c)
    line_halves t u = tells_as (tells_both t u) halves (λ f. (strided 1 4 (λ k. omega arith) f, strided 3 4 (λ k. omega arith) f))

  module _ (parity : ℕ) where
    pub passed_first : {c : ℕ} → c ≡ s * parity → parity < 2 → Passed m s kept turned parity c true
    passed_first e l =
        record { number = parity; times = e; is = omega arith; closed = (λ t b o l. absurd (omega arith), λ f. refl) }

    module _ {c : ℕ} {all : Bool} (here : Passed m s kept turned parity c all) where
      pub line_here : c ≤ side m → Line m s parity c
      line_here l = record { number = here.number; times = here.times; is = here.is; inside = l }

      pub passed_on : {r : Bool} → c ≤ side m → Decides r (LineClosed m kept s turned c) →
          Passed m s kept turned parity (c + 2 * s) (all && r)
      passed_on inside t =
          record {
            number = suc (suc here.number);
            times = two_on s here.number here.times;
            is = omega (arith, here.is);
            closed =
                tells_as (tells_both here.closed t) (λ both b o l h. go both b o l h (dec_lt b here.number))
                (λ f. (λ b o l. f b o (omega arith), rw here.times (f here.number here.is (omega arith) (rw here.times at inside))));
          }
        where
          go : LinesBefore m s kept turned parity here.number × LineClosed m kept s turned c →
              (b : ℕ) → b % 2 ≡ parity → b < suc (suc here.number) → s * b ≤ side m → Dec (b < here.number) →
              LineClosed m kept s turned (s * b)
          go both b o l h (yes d) = both.0 b o d h
          go both b o l h (no d) =
              let f : here.number ≡ b = omega (arith, here.is) in rw (here.times, f) at both.1

      pub passed_last : side m < c → Decides all (LinesClosed m kept s turned parity)
      passed_last l =
          tells_as here.closed (λ f b o h. f b o (go b h (dec_lt b here.number)) h) (λ f b o d h. f b o h)
        where
          go : (b : ℕ) → s * b ≤ side m → Dec (b < here.number) → b < here.number
          go b h (yes d) = d
          go b h (no d) = let far : s * here.number ≤ s * b = mul-le-mul_left s (omega arith) in absurd (omega (arith, here.times))

-- a row of centres begins with one whose reach is d, and the next but one in it, and the next row, with the other
pub record PassedCentres (m s : ℕ) (kept : Point → Bool) (y d : ℕ) (all : Bool) : Type 0 where
  pub passed : Passed m s kept false 1 y all
  pub across : Across (side m) s (1 + passed.number) d

pub across_on : {n s t u d : ℕ} → u ≡ t + 2 → Across n s t d → Across n s u (2 * (s * (n + 1)) - d)
across_on {n} {s} e (falls h f) = let l : s ≤ s * (n + 1) = le-mul_of_pos_right s (omega arith) in rises (omega arith) (omega arith)
across_on {n} {s} e (rises h f) = let l : s ≤ s * (n + 1) = le-mul_of_pos_right s (omega arith) in falls (omega arith) (omega arith)

pub across_most : {n s t d : ℕ} → Across n s t d → d ≤ 2 * (s * (n + 1))
across_most {n} {s} (falls h f) = omega arith
across_most {n} {s} (rises h f) = let l : s ≤ s * (n + 1) = le-mul_of_pos_right s (omega arith) in omega arith

pub across_by : {n s t u d : ℕ} → u % 4 ≡ t % 4 → Across n s t d → Across n s u d
across_by e (falls h f) = falls (e ∙ h) f
across_by e (rises h f) = rises (e ∙ h) f

module _ {m s : ℕ} (w : Power m s) (kept : Point → Bool) where
  pub centres_first : {n d : ℕ} → n ≡ side m → d ≡ s * (n + 1) - s → PassedCentres m s kept s d true
  unfolding passed_first
  centres_first sided f = let e = rw sided at f in record { passed = passed_first w kept false 1 (sym (mul-one s)) (omega arith); across = falls refl e }

  module _ {y d : ℕ} {all : Bool} (here : PassedCentres m s kept y d all) where
    pub centre_row_here : y ≤ side m → CentreRow m s y d
    unfolding line_here
    centre_row_here l = record { line = line_here w kept false 1 here.passed l; across = here.across }

    pub centres_on : {n : ℕ} {r : Bool} → n ≡ side m → y ≤ side m → Decides r (LineClosed m kept s false y) →
        PassedCentres m s kept (y + 2 * s) (2 * (s * (n + 1)) - d) (all && r)
    unfolding passed_on
    centres_on sided l t = rw sided record { passed = passed_on w kept false 1 here.passed l t; across = across_on (omega arith) here.across }

module _ (m : ℕ) (kept : Point → Bool) where
  -- all that the document asks of the set
  abbrev All : Type 0
  All = (p : Point) → Inside m p → supported m kept p ≡ true

  spacing_all : (s : ℕ) → All → SpacingClosed m kept s
  spacing_all s all =
      record {
        east_west = λ b e h a o l. all (at (s * a) (s * b)) (record { east = l; north = h });
        north_south = λ b e h a o l. all (at (s * b) (s * a)) (record { east = h; north = l });
        centres = λ b e h a o l. all (at (s * a) (s * b)) (record { east = l; north = h });
      }

  -- each point lies in a line of its spacing
  in_spacing : {j a b : ℕ} {k : Kind} {p : Point} → Placed m j a b p → Way a b k → SpacingClosed m kept (2 ^ j) →
      supported m kept p ≡ true
  in_spacing {j} {a} {b} {p = p} f way closed = rw (same_point f.times.east f.times.north) (go way)
    where
      east : 2 ^ j * a ≤ side m
      east = rw f.times.east at f.inside.east

      north : 2 ^ j * b ≤ side m
      north = rw f.times.north at f.inside.north

      go : {k : Kind} → Way a b k → supported m kept (at (2 ^ j * a) (2 ^ j * b)) ≡ true
      go (row oa eb) = closed.east_west b eb north a oa east
      go (column ea ob) = closed.north_south a ea east b ob north
      go (rise oa ob t) = closed.centres b ob north a oa east
      go (fall oa ob t) = closed.centres b ob north a oa east

  at_corner : (p : Point) → is_corner m p ≡ true → supported m kept p ≡ true
  unfolding supported depends_on
  at_corner p c = rw (kind_corner m p c) (or-true (not (kept p)))

  spacings_all : ((j : ℕ) → j < m → SpacingClosed m kept (2 ^ j)) → All
  spacings_all closed p h = go (is_corner m p) refl
    where
      go : (t : Bool) → is_corner m p ≡ t → supported m kept p ≡ true
      go true c = at_corner p c
      go false c = let f = placed m p h c in in_spacing f (kind_way f) (closed (level m p.x p.y) f.below)

  -- told by what an iterator's `all` has found of the spacings 1, 2, .. below N
  pub spacings_told : (r : Bool) →
      MatchBool r (AllWithin (λ j. SpacingClosed m kept (2 ^ j)) (range_with_len 0 m) 0 (length (range_with_len 0 m)))
      ((k : ℕ) × (k < length (range_with_len 0 m)) × HoldsAt (λ j. ¬ (SpacingClosed m kept (2 ^ j))) (range_with_len 0 m) k) →
      r ≡ every (supported m kept) (points m)
  spacings_told true all =
      sym ((every_point m (supported m kept)).1
      (spacings_all
      (λ j l.
      let there : get_or (range_with_len 0 m) j 0 ≡ j = get_or-range_with_len 0 m j 0 l ∙ omega arith in
      rw there at (all j 0 (omega arith) (rw (length-range_with_len 0 m) l)))))
  spacings_told false some = sym (false_by _ (λ e. some.2 0 (spacing_all _ ((every_point m (supported m kept)).0 e))))
