-- The eight sizes and what each holds. Document 01, "The grid" and refusal 1. Definitions only.
use Rattle.std.specs.Prelude.{cond, Result, Ok, Err, ℕ, ◌*◌, leb}
use Rattle.grid.specs.Grid.{side, samples, largest}
use Rattle.grid.specs.declared.refusals.Refusal.{Refusal}
use Rattle.grid.specs.declared.refusals.Refusal.TheVariants.{SizeAbove}
use Rattle.grid.specs.declared.sizes.Size.{Size}

-- what size m holds: N, the samples, and the most triangles, 2N²
abbrev pub size_of : ℕ → Size
size_of m = record { side = side m; samples = samples m; triangles = 2 * (side m * side m) }

-- the size, or refusal 1 where m is above the largest
abbrev pub size_answer : ℕ → Result Size Refusal
size_answer m = cond (leb m largest) (Ok (size_of m)) (Err SizeAbove)
