-- `grid::sizes::size_of` meets its contract: the table's rule is one test, computed over its eight rows.
use mathlib.Core.Path.{◌≡◌, refl}
use mathlib.Core.Bool.{Bool, ◌&&◌}
use mathlib.Core.List.{List, [], ◌∷◌}
use Prim.Native.Nat.{ℕ, ◌≤◌}
use native.Mathlib.Omega.{arith}
use borrow.Author.Tests.{le-leb}
use lib.Dec.{T, eqb, eqb→eq}
use lib.ListN.{length, get_or}
use Rattle.grid.specs.Grid.{largest}
use Rattle.grid.specs.Sizes.{size_of, size_answer}
use Rattle.grid.specs.declared.sizes.Size.{Size}
use Rattle.grid.specs.declared.refusals.Refusal.{Refusal}
use Rattle.std.specs.Prelude.{Result, Ok}
use Rattle.grid.proofs.Table.{both, passes, row}
use Rattle.grid.proofs.sizes.size_of.Goals as goal

abbrev right : ℕ → Size → Bool
right m r = eqb r.side (size_of m).side && (eqb r.samples (size_of m).samples && eqb r.triangles (size_of m).triangles)

rule : (m : ℕ) (r : Size) → T (right m r) → r ≡ size_of m
rule m r t =
    let a = both (eqb r.side (size_of m).side) (eqb r.samples (size_of m).samples && eqb r.triangles (size_of m).triangles) t in
    let b = both (eqb r.samples (size_of m).samples) (eqb r.triangles (size_of m).triangles) a.1 in
    λ i. record {
      side = eqb→eq r.side (size_of m).side a.0 i;
      samples = eqb→eq r.samples (size_of m).samples b.0 i;
      triangles = eqb→eq r.triangles (size_of m).triangles b.1 i;
    }

answer : (rows : List Size) (d : Size) (m : ℕ) → T (passes right 0 rows) → length rows ≡ 8 → m ≤ largest →
    ◌≡◌ {A = Result Size Refusal} (Ok (get_or rows m d)) (size_answer m)
answer rows d m t l h = rw (le-leb m largest h, rule m (get_or rows m d) (row right rows d m t (omega arith)))

-- the rows as the code has them
abbrev size : ℕ → ℕ → ℕ → Size
size n s t = record { side = n; samples = s; triangles = t }

abbrev table : List Size
table =
    size 1 4 2 ∷ size 2 9 8 ∷ size 4 25 32 ∷ size 8 81 128 ∷ size 16 289 512 ∷ size 32 1089 2048 ∷ size 64 4225 8192 ∷
    size 128 16641 32768 ∷ []

pub returns-then-m-le-LARGEST : goal.returns-then-m-le-LARGEST
returns-then-m-le-LARGEST c = answer table (size 0 0 0) c.args.m tt refl c.if-m-le-LARGEST.true
