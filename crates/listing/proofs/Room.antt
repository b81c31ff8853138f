-- The places hold all the triangles that are answered, and these are no more than the largest size has: so their lines find room. And the
-- lines are read from the places that were written alone: so what is printed does not depend on what the buffer held before.
use mathlib.Core.Path.{◌≡◌, refl, sym, ap, ◌∙◌, subst}
use mathlib.Core.List.{List, ◌++◌}
use Prim.Native.Nat.{ℕ, zero, suc, ◌+◌, ◌*◌, ◌≤◌, ◌<◌}
use native.Mathlib.Omega.{arith}
use native.Mathlib.Decide.{ℕ_discrete}
use lib.ListN.{length, get_or, drop, get_or-append}
use Rattle.grid.specs.Refusal.{accepted}
use Rattle.grid.specs.Sizes.{size_of}
use Rattle.frame.specs.Frame.{largest_framed, size_in}
use Rattle.frame.proofs.Accepted.{accepted_input}
use Rattle.std.specs.Prelude.{Result, Ok, Err}
use Rattle.mesh.specs.Meshed.{entries_each, written_over, Meshes}
use Rattle.mesh.specs.Triangles.{mesh}
use Rattle.mesh.specs.declared.Meshed.{Meshed}
use Rattle.mesh.proofs.Rule.{AsRead, as_read, told}
use Rattle.mesh.proofs.Written.{places_long}
use Rattle.listing.specs.Program.{refusal, kept_in, places_in}
use Rattle.listing.specs.Text.{line_at, lines_of, text_of, text_in, Prints}
use Rattle.mesh.specs.Inner.{Put}
use Rattle.mesh.proofs.Halves.{put_over}
use Rattle.listing.specs.declared.Text.{Text}
use Rattle.listing.specs.Inner.{Roomy, Lists, Adds, triangles_in}
use Rattle.listing.proofs.Cases.{answer_refused, places_taken, formed}
use Rattle.listing.proofs.Enough.{meshed, triangles_most}
use Rattle.listing.proofs.Steps.{meshed_answer, lists_meshes}

-- a line, and so many lines, are read from the entries in front
line_front : (front behind : List ℕ) (i : ℕ) → i + entries_each ≤ length front → line_at (front ++ behind) i ≡ line_at front i
line_front front behind i l =
    let here : (n : ℕ) → n < entries_each → get_or (front ++ behind) (i + n) 0 ≡ get_or front (i + n) 0 =
    λ n k. get_or-append front behind 0 (i + n) (omega arith) in
    let first : get_or (front ++ behind) i 0 ≡ get_or front i 0 = get_or-append front behind 0 i (omega arith) in
    rw (first, here 1 (omega arith), here 2 (omega arith))

lines_front : (front behind : List ℕ) (n : ℕ) → entries_each * n ≤ length front → lines_of n (front ++ behind) ≡ lines_of n front
unfolding lines_of
lines_front front behind zero l = refl
lines_front front behind (suc n) l =
    λ i. lines_front front behind n (omega arith) i ++ line_front front behind (entries_each * n) (omega arith) i

text_front : (r : Result ℕ ℕ) (front behind : List ℕ) → entries_each * triangles_in r ≤ length front → text_of r (front ++ behind) ≡ text_of r front
unfolding text_of
text_front (Ok triangles) front behind l = rw (lines_front front behind triangles l)
text_front (Err number) front behind l = refl

module _ {input places : List ℕ} (room : Roomy places) {r : Result ℕ ℕ} {places' : List ℕ} (s : Lists input places r places') where
  -- accepted: as many triangles as are cut, and all of them listed
  module _ (ok : refusal input ≡ accepted) where
    answer : Meshed
    answer = meshed_answer input places

    whole : Meshes (meshed input places) answer places' × (answer.refusal ≡ accepted) × (r ≡ Ok answer.triangles)
    unfolding answer
    whole = lists_meshes input places room ok s

    many : triangles_in r ≡ answer.triangles
    many = ap triangles_in whole.2

    read : AsRead (meshed input places) answer places'
    read = as_read whole.0 whole.1

    listed : entries_each * triangles_in r ≡ length (places_in input)
    listed =
        ap (λ n. entries_each * n) (many ∙ read.many) ∙ sym (places_long (size_in input) (mesh (size_in input) (kept_in input)))
        ∙ ap length (sym (places_taken input ok))

    few : triangles_in r ≤ (size_of largest_framed).triangles
    few = omega (arith, many, (told whole.0 whole.1).most, triangles_most (accepted_input input (formed input ok)).small)

  none : ¬ (refusal input ≡ accepted) → triangles_in r ≡ 0
  none n = ap triangles_in (s.answer ∙ answer_refused input n)

  pub held : (triangles_in r ≤ (size_of largest_framed).triangles) × (entries_each * triangles_in r ≤ length places')
  held = by (ℕ_discrete (refusal input) accepted)
    where
      by : Dec (refusal input ≡ accepted) → (triangles_in r ≤ (size_of largest_framed).triangles) × (entries_each * triangles_in r ≤ length places')
      by (yes ok) = (few ok, omega (arith, many ok, (read ok).many, (read ok).long))
      by (no n) = (omega (arith, none n), omega (arith, none n))

  all : entries_each * triangles_in r ≤ length (places_in input)
  all = by (ℕ_discrete (refusal input) accepted)
    where
      by : Dec (refusal input ≡ accepted) → entries_each * triangles_in r ≤ length (places_in input)
      by (yes ok) = omega (arith, listed ok)
      by (no n) = omega (arith, none n)

  -- what is printed of the answer and the places is the input's text, whatever the places held
  pub text_listed : text_of r places' ≡ text_in input
  text_listed =
      ap (text_of r) s.written ∙ text_front r (places_in input) (drop (length (places_in input)) places) all
      ∙ ap (λ a. text_of a (places_in input)) s.answer

  -- so the text written from the beginning of a buffer with room for it is the input's
  pub prints : {most : ℕ} {t u : Text} → Adds most (text_of r places') t u → t.at ≡ 0 → most ≤ length t.out.now → Prints input t.out.now u.at u.out.now
  prints {t} {u} p start fits =
      let put = subst (λ i. Put (text_of r places') i t.out.now u.at u.out.now) start p.put in
      record {
        answer = omega (arith, put.behind, ap length text_listed);
        written = put_over put (omega (arith, p.short, fits)) ∙ ap (λ l. written_over l t.out.now) text_listed;
      }
