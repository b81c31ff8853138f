-- A run of points of one kind along a row, every second column or every fourth: what is done before it begins, from one of its columns
-- to the next, and when it ends.
use Rattle.std.proofs.Common.{◌≡◌, ℕ, suc, ◌+◌, ◌*◌, ◌%◌, ◌^◌, ◌<◌, ◌≤◌, ◌⊎◌, sym, ap, ◌∙◌, inl, inr, arith}
use native.Mathlib.Decide.{dec_lt, ℕ_discrete}
use Rattle.grid.specs.Grid.{side, Inside}
use Rattle.grid.specs.Points.{units, rank}
use Rattle.grid.specs.declared.points.Point.{Point}
use Rattle.grid.specs.declared.points.Kind.{Kind}
use Rattle.grid.specs.declared.points.Kind.TheVariants.{Corner, EastWest, NorthSouth, Rising, Falling}
use Rattle.grid.specs.Inner.{EdgeKind, CentreKind, next_kind}
use Rattle.grid.proofs.Around.{Way, row, column, rise, fall}
use Rattle.grid.proofs.Placed.{Placed}
use Rattle.selection.specs.Inner.{Swept, corner, finer, row as rows, stride, Ran, swept, earlier, along}
use Rattle.selection.proofs.Swept.{alike, same_there, column_inside}

-- two units on along a row the kind of an edge point is the same, and a centre's ends lie on the other diagonal
edge_stays : {k : Kind} → EdgeKind k → next_kind k ≡ k
edge_stays (inl e) = rw e
edge_stays (inr e) = rw e

centre_returns : {k : Kind} → CentreKind k → next_kind (next_kind k) ≡ k
centre_returns (inl e) = rw e
centre_returns (inr e) = rw e

pub centre_turns : {k : Kind} → CentreKind k → CentreKind (next_kind k)
centre_turns (inl e) = inr (ap next_kind e)
centre_turns (inr e) = inl (ap next_kind e)

-- numbers told apart by n, which is even
pub record Steps (n : ℕ) : Type 0 where
  pub positive : 0 < n
  pub less : (u : ℕ) → u % n < n
  pub even : (a c : ℕ) → a % n ≡ c → a % 2 ≡ c % 2
  pub again : (a : ℕ) → (a + n) % n ≡ a % n
  pub same : (a u : ℕ) → a % n ≡ u % n → u < a + n → ¬ (u < a) → u ≡ a
  pub lowest : (u : ℕ) → u % n ≤ u
  pub at_zero : (u : ℕ) → u % n < 1 → u % 2 ≡ 0
  pub next : (u c : ℕ) → u % 2 ≡ c % 2 → u % n < c + 2 → ¬ (u % n < c) → u % n ≡ c

two : Steps 2
two = record {
  positive = omega arith;
  less = λ u. omega arith;
  even = λ a c e. omega (arith, e);
  again = λ a. omega arith;
  same = λ a u e l n. omega (arith, e);
  lowest = λ u. omega arith;
  at_zero = λ u l. omega arith;
  next = λ u c e l n. omega (arith, e);
}

four : Steps 4
four = record {
  positive = omega arith;
  less = λ u. omega arith;
  even = λ a c e. omega (arith, e);
  again = λ a. omega arith;
  same = λ a u e l n. omega (arith, e);
  lowest = λ u. omega arith;
  at_zero = λ u l. omega arith;
  next = λ u c e l n. omega (arith, e);
}

pub steps : (k : Kind) → Steps (stride k)
steps Corner = two
steps EastWest = two
steps NorthSouth = two
steps Rising = four
steps Falling = four

-- a stride in cells
pub stepped : (k : Kind) {s : ℕ} → 0 < s → (0 < stride k * s) × (stride k * s ≤ 4 * s)
stepped Corner l = (omega arith, omega arith)
stepped EastWest l = (omega arith, omega arith)
stepped NorthSouth l = (omega arith, omega arith)
stepped Rising l = (omega arith, omega arith)
stepped Falling l = (omega arith, omega arith)

-- a stride on, the kind is the same
pub way_on : {a b : ℕ} {k : Kind} → Way a b k → Way (a + stride k) b k
way_on (row oa eb) = row (omega arith) eb
way_on (column ea ob) = column (omega arith) ob
way_on (rise oa ob t) = rise (omega arith) ob (omega arith)
way_on (fall oa ob t) = fall (omega arith) ob (omega arith)

module _ {m j a b : ℕ} {q : Point} (g : Placed m j a b q) (k : Kind) where
  -- past a column of the run of c: it is one point more, and a stride on nothing else is
  pub run_past : {c : ℕ} → a % stride k ≡ c → (p : Point) → Inside m p → Ran m (stride k) (rank m q) b c (a + stride k) p →
      (p ≡ q) ⊎ Ran m (stride k) (rank m q) b c a p
  run_past e p h (swept d) = inr (swept d)
  run_past e p h (earlier r u l) = inr (earlier r u l)
  run_past {c} e p h (along r u t l) = by (dec_lt (units m p).across a)
    where
      by : Dec ((units m p).across < a) → (p ≡ q) ⊎ Ran m (stride k) (rank m q) b c a p
      by (yes d) = inr (along r u t d)
      by (no d) = inl (same_there g p h r u ((steps k).same a (units m p).across (e ∙ sym t) l d))

  parity : (p : Point) → Inside m p → rank m p ≡ rank m q → (units m p).up ≡ b → (units m p).across % 2 ≡ a % 2
  parity p h r u = omega (arith, (alike g p h r).sum, u)

  -- the run of c begins in column c, with nothing before it
  pub run_begun : (c : ℕ) (p : Point) → Inside m p → Ran m (stride k) (rank m q) b c c p → Ran m (stride k) (rank m q) b c 0 p
  run_begun c p h (swept d) = swept d
  run_begun c p h (earlier r u l) = earlier r u l
  run_begun c p h (along r u t l) = absurd (omega (arith, t, (steps k).lowest (units m p).across))

  -- it ends beyond the square
  pub run_ended : (c : ℕ) → a % 2 ≡ c % 2 → (n : ℕ) → side m < 2 ^ j * n → (p : Point) → Inside m p → Ran m (stride k) (rank m q) b (c + 2) 0 p →
      Ran m (stride k) (rank m q) b c n p
  run_ended c o n l p h (swept d) = swept d
  run_ended c o n l p h (along r u t d) = absurd (omega arith)
  run_ended c o n l p h (earlier r u d) = by (dec_lt ((units m p).across % stride k) c)
    where
      by : Dec ((units m p).across % stride k < c) → Ran m (stride k) (rank m q) b c n p
      by (yes f) = earlier r u f
      by (no f) = along r u ((steps k).next (units m p).across c (parity p h r u ∙ o) d f) (column_inside g n l p h r)

  -- the first run of a row comes after the rows before
  pub run_first : a ≤ 1 → (p : Point) → Inside m p → Ran m (stride k) (rank m q) b a 0 p → Swept m (rank m q) b p
  run_first f p h (swept d) = d
  run_first f p h (earlier r u l) =
      absurd (omega (arith, parity p h r u, (steps k).at_zero (units m p).across (omega arith)))
  run_first f p h (along r u t l) = absurd (omega arith)

-- after the last a row is swept
pub run_last : (k : Kind) {m r b c : ℕ} (p : Point) → stride k ≤ c → Swept m r (suc b) p → Ran m (stride k) r b c 0 p
run_last k p f (corner e) = swept (corner e)
run_last k p f (finer l) = swept (finer l)
run_last k {m} {r} {b} {c} p f (rows e l) = by (ℕ_discrete (units m p).up b)
  where
    by : Dec ((units m p).up ≡ b) → Ran m (stride k) r b c 0 p
    by (yes u) = earlier e u (omega (arith, (steps k).less (units m p).across))
    by (no n) = swept (rows e (omega arith))
