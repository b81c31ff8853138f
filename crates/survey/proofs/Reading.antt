-- What the code reads at a point's place, and what it hands on as an argument, in the words of the definitions: a number of 16
-- bits arrives as it was.
use mathlib.Core.Path.{◌≡◌, sym, ap, ◌∙◌}
use mathlib.Core.Bool.{Bool}
use mathlib.Core.List.{List}
use Prim.Native.Nat.{ℕ, ◌<◌}
use lib.ListN.{length, get_or}
use lib.IntN.{ℤ, pos}
use mir.Syntax.{w16}
use mir.Val.{SFits, to_z, of_z}
use mir.Facts.{to_z-of_z}
use Rattle.grid.specs.Grid.{void, is_void, samples, place, point, Inside, raise}
use Rattle.grid.specs.declared.points.Point.{Point}
use Rattle.grid.proofs.OnGrid.{any_default, room}
use Rattle.grid.proofs.Places.{place_point}
use Rattle.survey.specs.Filled.{sample}

-- a height that is passed on arrives
pub passed : {a : ℤ} {x : ℕ} → SFits w16 a → x ≡ raise (to_z w16 (of_z w16 a)) → x ≡ raise a
passed f e = e ∙ ap raise (to_z-of_z f)

-- what is read at a place is what stands there, void beyond the list
pub read_at : {i : ℕ} (l : List ℤ) → i < length l → SFits w16 (get_or l i (pos 0)) → to_z w16 (of_z w16 (get_or l i (pos 0))) ≡ get_or l i void
read_at {i} l h f = to_z-of_z f ∙ any_default l i (pos 0) void h

pub fits_at : {i : ℕ} (l : List ℤ) → i < length l → SFits w16 (get_or l i (pos 0)) → SFits w16 (get_or l i void)
fits_at {i} l h f = rw (any_default l i (pos 0) void h) at f

-- and a test of it says whether that is void
pub tested : {i : ℕ} (l : List ℤ) → i < length l → SFits w16 (get_or l i (pos 0)) → {r t : Bool} →
    r ≡ is_void (to_z w16 (of_z w16 (get_or l i (pos 0)))) → r ≡ t → is_void (get_or l i void) ≡ t
tested l h f b c = ap is_void (sym (read_at l h f)) ∙ sym b ∙ c

-- at the place of a point, its sample
pub read : {m : ℕ} {p : Point} {i : ℕ} (l : List ℤ) → length l ≡ samples m → Inside m p → i ≡ place m p → SFits w16 (get_or l i (pos 0)) →
    to_z w16 (of_z w16 (get_or l i (pos 0))) ≡ sample m l p
unfolding sample
read l n h e f = read_at l (room l n h e) f ∙ ap (λ (k : ℕ). get_or l k void) e

-- the sample of the point of a place is what stands there
pub sample_place : (m : ℕ) (heights : List ℤ) (i : ℕ) → sample m heights (point m i) ≡ get_or heights i void
unfolding sample
sample_place m heights i = ap (λ (k : ℕ). get_or heights k void) (place_point m i)
