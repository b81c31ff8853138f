-- The settled examples hold: every number of the table is computed by the checker from the definitions that the promises cite. Only example 1,
-- which is said of every height and tolerance, and the rows of m = 8 have anything but numbers in them.
use mathlib.Core.Path.{refl}
use mathlib.Core.List.{List, [], ◌∷◌}
use Prim.Native.Nat.{ℕ, zero, suc, ◌^◌, ◌<◌}
use native.Mathlib.Omega.{arith}
use lib.IntN.{ℤ, pos, nat_abs}
use lib.Signed.{mag}
use lib.Ieee.{prec, to_bits, size, span, climb, odd, units as float_units, round}
use borrow.Author.Tests.{le-ltb}
use Rattle.grid.specs.Grid.{place, point, on_grid, midpoint}
use Rattle.grid.specs.Points.{level, spacing, units, is_corner, kind, ends, depends_on, dependents}
use Rattle.survey.specs.Filled.{sample, height_by, height_of, filled}
use Rattle.survey.specs.Rule.{Sixteen}
use Rattle.selection.specs.Error.{error_by, exceeding}
use Rattle.selection.specs.Kept.{chain, kept}
use Rattle.selection.specs.Marks.{mark, marks_of}
use Rattle.selection.specs.Selected.{highest_tolerance, corner_void, refusal as selection_refusal, answer_of as selection_answer}
use Rattle.selection.specs.Selected.{marks_after, heights_after}
use Rattle.mesh.specs.Triangles.{uncut, mesh, number}
use Rattle.mesh.specs.Closed.{good_marks, supported, closed}
use Rattle.mesh.specs.Meshed.{refusal as mesh_refusal, answer_of as mesh_answer, places_after}
use Rattle.aim.specs.Quotient.{format, quotient}
use Rattle.aim.specs.Walk.{start, half, walk, met}
use Rattle.aim.specs.Aimed.{ended, looked, refusal as aim_refusal, weighted, height_in, is_filled, height_at, eastward, northward, ground_in, plane_at}
use Rattle.aim.proofs.Exactness.{exactly}
use Rattle.surface.proofs.Surface.{one_surface}
use Rattle.listing.proofs.Values.{sample_text_lem}
use Rattle.strip.specs.Stripped.{refusal as strip_refusal, answer_of as strip_answer, places_after as strip_places}
use Rattle.settled.specs.Examples.{minus, grid_q, nines, select, FloatIs, Settled}

-- a whole number of at most 24 binary digits, divided by a power of two that is small enough, and its bits
is : (z : ℤ) (power : ℕ) → (nat_abs z < 2 ^ prec format) × (power < prec format) →
    FloatIs z (2 ^ power) (to_bits format (quotient format z (2 ^ power))) (quotient format z (2 ^ power))
is z power small =
    record { exactly = exactly format z (2 ^ power) (record { power = power; is = refl; few = small.1; whole = small.0 }); bits = refl }

-- each number of a list is small enough for 16 bits
abbrev Small : List ℤ → Type 0
Small [] = Unit {0}
Small (h ∷ l) = (mag h < 32768) × Small l

sixteen : (l : List ℤ) → Small l → Sixteen l
sixteen [] s i below = absurd (omega arith)
sixteen (h ∷ l) s zero below = record { sfits = s.0 }
sixteen (h ∷ l) s (suc i) below = sixteen l s.1 i (omega arith)

small_q : Sixteen grid_q
small_q = sixteen grid_q (omega arith)

pub settled : Settled
unfolding selection_answer selection_refusal marks_after heights_after corner_void marks_of mark kept chain exceeding error_by filled height_of height_by
    sample on_grid place point midpoint ends depends_on dependents kind units spacing level is_corner
    mesh_answer mesh_refusal places_after good_marks closed supported number mesh uncut
    strip_answer strip_refusal strip_places height_at plane_at aim_refusal ended looked start half walk met weighted height_in is_filled ground_in eastward northward
    quotient round float_units odd size span climb to_bits
settled = record {
  one_selection =
      λ height t known low.
      let taken = le-ltb highest_tolerance t low in
      record { answer = rw (taken, known); marks = rw (taken, known); heights = rw (taken, known) };
  one_triangles =
      λ height t known low.
      let taken = le-ltb highest_tolerance t low in
      record { answer = rw (taken, known); places = rw (taken, known) };
  two_selection = record { answer = refl; marks = refl; heights = refl };
  two_triangles = record { answer = refl; places = refl };
  three_selection = record { answer = refl; marks = refl; heights = refl };
  three_triangles = record { answer = refl; places = refl };
  four_selection = record { answer = refl; marks = refl; heights = refl };
  five_height = record { value = quotient format (pos 5) (2 ^ 0); answered = refl; height = is (pos 5) 0 (omega arith) };
  six_plane = record {
    accepts = refl;
    height = is (pos 5) 0 (omega arith);
    east = is (pos 10) 0 (omega arith);
    north = is (minus 10) 0 (omega arith);
  };
  seven_height = record { value = quotient format (pos 0) (2 ^ 0); answered = refl; height = is (pos 0) 0 (omega arith) };
  seven_plane = record {
    accepts = refl;
    height = is (pos 0) 0 (omega arith);
    east = is (pos 0) 0 (omega arith);
    north = is (pos 0) 0 (omega arith);
  };
  seven_height_refused = refl;
  seven_plane_refused = refl;
  eight_selection = record { answer = refl; marks = refl; heights = refl };
  eight_triangles = record { answer = refl; places = refl };
  eight_height = record { value = quotient format (minus 4) (2 ^ 0); answered = refl; height = is (minus 4) 0 (omega arith) };
  nine_selection = record { answer = refl; marks = refl; heights = refl };
  nine_height = record { value = quotient format (minus 7) (2 ^ 1); answered = refl; height = is (minus 7) 1 (omega arith) };
  ten_selection = record { answer = refl; marks = refl; heights = refl };
  ten_kept = refl;
  ten_triangles = record { answer = refl; places = refl };
  eleven_taken = record { answer = refl; marks = refl; heights = refl };
  eleven_refused = record { answer = refl; marks = refl; heights = refl };
  eleven_size = (refl, refl);
  eleven_selection = λ survey t marks heights. record { answer = refl; marks = refl; heights = refl };
  eleven_triangles = λ marks places. record { answer = refl; places = refl };
  eleven_strip = λ marks places. record { answer = refl; places = refl };
  eleven_height = λ marks heights x y. refl;
  eleven_plane = λ marks heights x y. refl;
  twelve_unclosed = record { answer = refl; places = refl };
  twelve_short = record { answer = refl; places = refl };
  twelve_written = record { answer = refl; places = refl };
  sample = sample_text_lem;
  surface =
      one_surface {s = select 1 5 grid_q} {places = nines 15} (record {
        selects = record { selects = record { answer = refl; marks = refl; heights = refl }; sixteen = λ ok. small_q };
        accepts = refl;
        room = omega arith;
        meshes = record { answer = refl; places = refl };
      });
}
