-- The points of a row, by their units: two columns or two rows on, the kind is the next; and what a placed point of a kind is to
-- the sweep.
use mathlib.Core.Path.{◌≡◌, refl, sym, ◌∙◌}
use mathlib.Core.Logic.{inl, inr}
use Prim.Native.Nat.{ℕ, suc, ◌+◌, ◌^◌, ◌/◌, ◌%◌}
use native.Mathlib.Decide.{ℕ_discrete}
use native.Mathlib.Omega.{arith}
use Rattle.grid.specs.Points.{kind, rank}
use Rattle.grid.specs.declared.points.Point.{Point}
use Rattle.grid.specs.declared.points.Kind.{Kind}
use Rattle.grid.proofs.Parity.{kind_north_south, kind_east_west, kind_rising, kind_falling}
use Rattle.grid.proofs.Around.{Way, row, column, rise, fall}
use Rattle.grid.proofs.Sums.{sum_alike, sum_unlike}
use Rattle.grid.proofs.Units.{Odd}
use Rattle.grid.proofs.Placed.{Placed, measured, inner}
use Rattle.grid.specs.Inner.{Sited, CentreKind, next_kind}

pub next_east : {a b : ℕ} {k : Kind} → Way a b k → Way (a + 2) b (next_kind k)
next_east (row oa eb) = row (omega arith) eb
next_east (column ea ob) = column (omega arith) ob
next_east (rise oa ob t) = fall (omega arith) ob (omega arith)
next_east (fall oa ob t) = rise (omega arith) ob (omega arith)

pub next_north : {a b : ℕ} {k : Kind} → Way a b k → Way a (suc (suc b)) (next_kind k)
next_north (row oa eb) = row oa (omega arith)
next_north (column ea ob) = column ea (omega arith)
next_north (rise oa ob t) = fall oa (omega arith) (omega arith)
next_north (fall oa ob t) = rise oa (omega arith) (omega arith)

pub way_odd : {a b : ℕ} {k : Kind} → Way a b k → Odd a b
way_odd (row oa eb) = inl oa
way_odd (column ea ob) = inr ob
way_odd (rise oa ob t) = inl oa
way_odd (fall oa ob t) = inl oa

-- in an odd row a point whose column is odd is a centre
pub centre_kind : {b : ℕ} {k : Kind} → b % 2 ≡ 1 → Way 1 b k → CentreKind k
centre_kind o (row oa eb) = absurd (omega arith)
centre_kind o (column ea ob) = absurd (omega arith)
centre_kind o (rise oa ob t) = inl refl
centre_kind o (fall oa ob t) = inr refl

-- two odd numbers whose sum is 2 more than a multiple of 4 have halves of one parity
halves_alike : (a b : ℕ) → a % 2 ≡ 1 → b % 2 ≡ 1 → (a + b) % 4 ≡ 2 → a / 2 % 2 ≡ b / 2 % 2
halves_alike a b oa ob t = by (ℕ_discrete (a / 2 % 2) (b / 2 % 2))
  where
    by : Dec (a / 2 % 2 ≡ b / 2 % 2) → a / 2 % 2 ≡ b / 2 % 2
    by (yes e) = e
    by (no n) = let u = sum_unlike a b oa ob n in absurd (omega arith)

module _ {m j a b : ℕ} {p : Point} (f : Placed m j a b p) where
  way_kind : {k : Kind} → Way a b k → kind m p ≡ k
  way_kind (row oa eb) = kind_east_west m p (inner f) (rw (measured f).across oa) (rw (measured f).up eb)
  way_kind (column ea ob) = kind_north_south m p (inner f) (rw (measured f).across ea)
  way_kind (rise oa ob t) =
      kind_rising m p (inner f) (rw (measured f).across oa) (rw (measured f).up ob) (rw ((measured f).across, (measured f).up) (halves_alike a b oa ob t))
  way_kind (fall oa ob t) =
      kind_falling m p (inner f) (rw (measured f).across oa) (rw (measured f).up ob)
      (rw ((measured f).across, (measured f).up) (λ e. let u = sum_alike a b oa ob e in omega arith))

  pub sited : {k : Kind} {s : ℕ} → s ≡ 2 ^ j → Way a b k → Sited m p k s
  sited e w = record { inside = f.inside; inner = inner f; kinded = sym (way_kind w); spaced = e ∙ sym (measured f).spaced }

-- points of one level whose units have the same parities have one rank
pub rank_alike : {m j a b c d : ℕ} {p q : Point} → Placed m j a b p → Placed m j c d q → a % 2 ≡ c % 2 → b % 2 ≡ d % 2 → rank m p ≡ rank m q
unfolding rank
rank_alike f g ea eb =
    rw ((measured f).levelled, (measured f).across, (measured f).up, (measured g).levelled, (measured g).across, (measured g).up, ea, eb)
