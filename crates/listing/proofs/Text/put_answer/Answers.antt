-- `listing::Text::put_answer` meets its contract: the first line, and the lines of the triangles behind it.
use Rattle.std.proofs.Common.{◌≡◌, List, ℕ, ◌∷◌, [], ◌++◌, suc, ◌+◌, ◌*◌, ◌-◌, ◌≤◌, ◌<◌, length, take, drop, get_or, sym, ap, ◌∙◌, refl, arith, length-append, length-drop, drop-drop, rules}
use Rattle.std.specs.Slice.Iter.{chunks_exact_rest}
use Rattle.std.proofs.lemmas.List.{length-take}
use lib.ListN.{get_or-append}
use lib.Seq.{get_or-take, get_or-drop, drop-append_seam}
use Rattle.mesh.specs.Meshed.{entries_each}
use Rattle.listing.specs.Text.{line_at}
use Rattle.listing.proofs.Joined.{no_line_added, next_line_added, lines_added, refusal_added, same_text}
use Rattle.listing.proofs.Text.put_answer.Goals as goal

-- n triangles' places were taken, and the others' are left
module _ (places : List ℕ) (triangles n : ℕ) (rest : List ℕ) (many : length rest ≡ entries_each * triangles - entries_each * n)
    (left : rest ≡ drop (entries_each * n) (take (entries_each * triangles) places)) where
  module _ (chunk rest' : List ℕ) (e : rest ≡ chunk ++ rest') (three : length chunk ≡ entries_each) where
    more : n < triangles
    more = omega (arith, many, ap length e ∙ length-append chunk rest', three)

    fewer : length rest' ≡ entries_each * triangles - entries_each * suc n
    fewer = omega (arith, many, ap length e ∙ length-append chunk rest', three)

    next : rest' ≡ drop (entries_each * suc n) (take (entries_each * triangles) places)
    next =
        let on : entries_each * n + entries_each ≡ entries_each * suc n = omega arith in
        sym (drop-append_seam chunk rest') ∙ (λ i. drop (three i) ((sym e ∙ left) i))
        ∙ drop-drop entries_each (entries_each * n) (take (entries_each * triangles) places)
        ∙ ap (λ k. drop k (take (entries_each * triangles) places)) on

    entry : (k : ℕ) → k < entries_each → get_or chunk k 0 ≡ get_or places (entries_each * n + k) 0
    entry k l =
        sym (get_or-append chunk rest' 0 k (omega (arith, three, l))) ∙ ap (λ (s : List ℕ). get_or s k 0) (sym e ∙ left)
        ∙ get_or-drop (entries_each * n) (take (entries_each * triangles) places) k 0
        ∙ get_or-take (entries_each * triangles) places (entries_each * n + k) 0 (omega (arith, more, l))

    line : line_at chunk 0 ≡ line_at places (entries_each * n)
    line =
        let none : entries_each * n + 0 ≡ entries_each * n = omega arith in
        let first = entry 0 (omega arith) ∙ ap (λ k. get_or places k 0) none in
        rw (first, entry 1 (omega arith), entry 2 (omega arith)) refl

pub returns-in-Err : goal.returns-in-Err
returns-in-Err c = rw c.in-Err.is (refusal_added c.in-Err.refusal c.args.places.now c.put_first.ensures)

pub loop-triangle-init : goal.loop-triangle-init
loop-triangle-init c =
    let room : entries_each * c.in-Ok.triangles ≤ length c.args.places.now = rw c.in-Ok.is at c.requires.1 in
    let rest = ap chunks_exact_rest c.into_iter-triangle-iterator.ensures.into_iter_gives ∙ c.chunks_exact-triangle-items.ensures.rest in
    (omega arith, search rules, omega (arith, ap length rest, length-take {A = ℕ}, length-drop {A = ℕ}), search rules, no_line_added _ _)

pub loop-triangle-preserved : goal.loop-triangle-preserved
loop-triangle-preserved c =
    let i = c.loop-triangle.invariant in
    let s = c.in-Some.ensures.steps in
    let places = c.args.places.now in
    let n = length c.loop-triangle.yielded in
    let one_more : length (c.loop-triangle.yielded ++ c.in-Some.triangle ∷ []) ≡ suc n =
    length-append c.loop-triangle.yielded (c.in-Some.triangle ∷ []) ∙ omega arith in
    let three = s.1.1 ∙ i.1 in
    let told = line places c.in-Ok.triangles n _ i.2 i.3 c.in-Some.triangle.now _ s.1.0 three in
    rw one_more (
      more places c.in-Ok.triangles n _ i.2 i.3 c.in-Some.triangle.now _ s.1.0 three,
      s.0 ∙ i.1,
      fewer places c.in-Ok.triangles n _ i.2 i.3 c.in-Some.triangle.now _ s.1.0 three,
      next places c.in-Ok.triangles n _ i.2 i.3 c.in-Some.triangle.now _ s.1.0 three,
      next_line_added places n refl i.4 (same_text told c.put_triangle.ensures),
    )

pub returns-in-None : goal.returns-in-None
returns-in-None c =
    let i = c.loop-triangle.invariant in
    let s = c.in-None.ensures.steps in
    let all : length c.loop-triangle.yielded ≡ c.in-Ok.triangles = omega (arith, i.0, i.1, i.2, s.1.0) in
    rw c.in-Ok.is (lines_added c.in-Ok.triangles c.args.places.now c.put_first-in-Ok.ensures (rw all at i.4))
