-- What functions inside the crate promise each other. No rule rests on it. Definitions only.
use Rattle.std.specs.Prelude.{◌≡◌, List, ℕ, ◌+◌, ◌*◌, ◌≤◌, length, Result, Ok, Err}
use Rattle.grid.specs.Sizes.{size_of}
use Rattle.frame.specs.Frame.{largest_framed}
use Rattle.mesh.specs.Meshed.{entries_each, written_over}
use Rattle.mesh.specs.Inner.{Put}
use Rattle.listing.specs.declared.Text.{Text}
use Rattle.listing.specs.Program.{answer_in, places_in}

-- room for the places of the most triangles that a frame has
abbrev pub Roomy : List ℕ → Type 0
Roomy places = entries_each * (size_of largest_framed).triangles ≤ length places

-- the most digits of a number of 32 bits, and room for a line: three such numbers, a byte behind each
abbrev pub most_digits : ℕ
most_digits = 10

abbrev pub line_room : ℕ
line_room = 33

-- the answer, and its places written over the beginning of the buffer for them
pub record Lists (input places : List ℕ) (r : Result ℕ ℕ) (places' : List ℕ) : Type 0 where
  pub answer : r ≡ answer_in input
  pub written : places' ≡ written_over (places_in input) places

-- room for so many bytes more
abbrev pub Room : Text → ℕ → Type 0
Room t more = t.at + more ≤ length t.out.now

-- a text of at most so many bytes written behind what is there, in the same buffer
pub record Adds (most : ℕ) (text : List ℕ) (t t' : Text) : Type 0 where
  pub same_buffer : t'.out.ghost_name ≡ t.out.ghost_name
  pub put : Put text t.at t.out.now t'.at t'.out.now
  pub short : length text ≤ most
  pub long : length t'.out.now ≡ length t.out.now

-- the triangles of an answer; refused: none
abbrev pub triangles_in : Result ℕ ℕ → ℕ
triangles_in (Ok triangles) = triangles
triangles_in (Err number) = 0
