-- Tests asked in turn, with the answer false at the first that fails, are their conjunction; so is the test of the points on a line
-- near c: below and above, each where it lies inside. r is what the code was told of a test t.
use mathlib.Core.Path.{◌≡◌, refl, sym, ap, ◌∙◌}
use mathlib.Core.Bool.{Bool, true, false, cond, not, ◌&&◌, and-true, not-not}
use mathlib.Core.List.{[], ◌∷◌, ◌++◌}
use Prim.Native.Nat.{ℕ, ◌+◌, ◌-◌}
use lib.Dec.{leb}
use Rattle.grid.specs.Points.{near, laid, in_line}
use Rattle.grid.specs.declared.points.Point.{Point}
use Rattle.mesh.specs.Closed.{every}

-- this one fails
pub fails : {r t : Bool} (u : Bool) → r ≡ t → r ≡ false → false ≡ (t && u)
fails u e h = rw (sym e ∙ h)

-- this one does not: the answer is the others'
pub passes : {r t u v : Bool} → r ≡ t → r ≡ true → v ≡ u → v ≡ (t && u)
passes e h w = rw (sym e ∙ h) w

-- the last one is the answer
pub last : {r t : Bool} → r ≡ t → r ≡ (t && true)
last {t = t} e = e ∙ sym (and-true t)

-- told of the test's denial
pub denied : {r t : Bool} → not r ≡ t → r ≡ not t
denied {r} e = sym (not-not r) ∙ ap not e

module _ (f : Point → Bool) (turned : Bool) (b n s c : ℕ) where
  abbrev All : Bool
  All = every f (in_line turned b (near n s c))

  abbrev below : Bool
  below = cond (leb s c) (f (laid turned (c - s) b)) true

  abbrev above : Bool
  above = cond (leb (c + s) n) (f (laid turned (c + s) b)) true

  pub line_test : All ≡ (below && above)
  line_test = go (leb s c) (leb (c + s) n)
    where
      go : (t u : Bool) → every f (in_line turned b (cond t ((c - s) ∷ []) [] ++ cond u ((c + s) ∷ []) []))
          ≡ (cond t (f (laid turned (c - s) b)) true && cond u (f (laid turned (c + s) b)) true)
      go true true = rw (and-true (f (laid turned (c + s) b)))
      go true false = refl
      go false true = and-true (f (laid turned (c + s) b))
      go false false = refl
