-- What the cutting by places writes are the places of the mesh: a place is linear in its point, so the place of a midpoint is half the
-- sum of the places.
use mathlib.Core.Path.{◌≡◌, refl, sym, ap, ◌∙◌}
use mathlib.Core.Bool.{Bool, true, false, cond}
use mathlib.Core.List.{List, [], ◌∷◌, ◌++◌}
use Prim.Native.Nat.{ℕ, zero, suc, ◌+◌, ◌*◌, ◌%◌, ◌≤◌, ◌<◌}
use native.Mathlib.Decide.{ℕ_discrete}
use native.Mathlib.Nat.{zero-mul}
use native.Mathlib.Omega.{arith}
use lib.ListN.{length, length-append}
use Rattle.grid.specs.Grid.{side, samples, largest, at, place, midpoint}
use Rattle.grid.specs.Hierarchy.{Triangle, first, second, first_half, second_half}
use Rattle.grid.specs.declared.points.Point.{Point}
use Rattle.grid.proofs.Cutting.{cut}
use Rattle.grid.proofs.Parity.{even_false, odd_true}
use Rattle.grid.proofs.Places.{place_below, samples_small, midplace_place}
use Rattle.selection.specs.Rule.{Closed}
use Rattle.mesh.specs.Triangles.{Three, written, uncut, mesh, places_of, number}
use Rattle.mesh.specs.Closed.{kept_by}
use Rattle.mesh.specs.Meshed.{written_over}
use Rattle.mesh.specs.Inner.{Plain, kept_place, in_order, cut_places, Corners, Put}
use Rattle.mesh.proofs.Numbered.{number_triangles}
use Rattle.mesh.proofs.Halves.{put_both, put_over}

module _ (m : ℕ) where
  places_append : (ts us : List Three) → places_of m (ts ++ us) ≡ places_of m ts ++ places_of m us
  places_append [] us = refl
  places_append (t ∷ ts) us =
      ap (λ (l : List ℕ). place m t.first ∷ place m t.second ∷ place m t.third ∷ l) (places_append ts us)

  -- three places each
  pub places_long : (ts : List Three) → length (places_of m ts) ≡ 3 * length ts
  places_long [] = refl
  places_long (t ∷ ts) = omega (arith, places_long ts)

  -- cuts made and cuts left are 2m in all, so a triangle is written in the same order by either
  order : (k cuts : ℕ) (l a r : Point) → cuts + k ≡ 2 * m →
      in_order k (place m l) (place m a) (place m r) ≡ places_of m (written cuts l a r ∷ [])
  order k cuts l a r e = by (ℕ_discrete (k % 2) 0)
    where
      by : Dec (k % 2 ≡ 0) → in_order k (place m l) (place m a) (place m r) ≡ places_of m (written cuts l a r ∷ [])
      by (yes z) = rw (even_false k z, even_false cuts (omega arith))
      by (no z) = rw (odd_true k (omega arith), odd_true cuts (omega arith))

  module _ (marks : List ℕ) where
    cut_places_lem : (k cuts : ℕ) {l a r : Point} → Triangle m k l a r → cuts + k ≡ 2 * m →
        cut_places (kept_place marks) k (place m l) (place m a) (place m r) ≡ places_of m (uncut (kept_by m marks) k cuts l a r)
    unfolding cut_places uncut
    cut_places_lem zero cuts {l} {a} {r} t e = order zero cuts l a r e
    cut_places_lem (suc k) cuts {l} {a} {r} t e =
        let c = cut t in
        let less : suc cuts + k ≡ 2 * m = omega arith in
        rw (midplace_place m l r (midpoint l r) c.east c.north, cut_places_lem k (suc cuts) (first_half t) less, cut_places_lem k (suc cuts) (second_half t) less)
        (by (kept_by m marks (midpoint l r)) (uncut (kept_by m marks) k (suc cuts) l (midpoint l r) a) (uncut (kept_by m marks) k (suc cuts) a (midpoint l r) r))
      where
        by : (b : Bool) (ts us : List Three) →
            cond b (places_of m ts ++ places_of m us) (in_order (suc k) (place m l) (place m a) (place m r))
            ≡ places_of m (cond b (ts ++ us) (written cuts l a r ∷ []))
        by true ts us = sym (places_append ts us)
        by false ts us = order (suc k) cuts l a r e

    -- the places of the grid corners
    abbrev pub east : ℕ
    east = side m

    abbrev pub north : ℕ
    north = side m * (side m + 1)

    -- the last of them is the last place
    pub last_place : north + east < samples m
    unfolding place
    last_place = place_below m (at (side m) (side m)) (omega arith)

    -- marks stand there
    pub starts : Plain marks → m ≤ largest → length marks ≡ samples m → Corners marks 0 east (north + east) × Corners marks (north + east) north 0
    starts plain small long =
        let few : length marks ≤ samples largest = omega (arith, samples_small small) in
        let last : north + east < length marks = omega (arith, last_place) in (
          record { ends = record { plain = plain; small = few; left = omega arith; right = last }; apex = omega arith },
          record { ends = record { plain = plain; small = few; left = last; right = omega arith }; apex = omega arith },
        )

    -- what is written for the first of the two triangles that the square starts as, and for the second
    abbrev pub firsts : List ℕ
    firsts = cut_places (kept_place marks) (2 * m) 0 east (north + east)

    abbrev pub seconds : List ℕ
    seconds = cut_places (kept_place marks) (2 * m) (north + east) north 0

    mesh_places : places_of m (mesh m (kept_by m marks)) ≡ firsts ++ seconds
    unfolding mesh place
    mesh_places =
        let none : 0 + 2 * m ≡ 2 * m = omega arith in
        let sw : 0 * (side m + 1) + 0 ≡ 0 = omega (arith, zero-mul (side m + 1)) in
        let se : 0 * (side m + 1) + side m ≡ east = omega (arith, zero-mul (side m + 1)) in
        let nw : north + 0 ≡ north = omega arith in
        places_append (uncut (kept_by m marks) (2 * m) 0 (at 0 0) (at (side m) 0) (at (side m) (side m))) (uncut (kept_by m marks) (2 * m) 0 (at (side m) (side m)) (at 0 (side m)) (at 0 0))
        ∙ sym (λ i. cut_places_lem (2 * m) 0 first none i ++ cut_places_lem (2 * m) 0 second none i)
        ∙ (λ i. cut_places (kept_place marks) (2 * m) (sw i) (se i) (north + east) ++ cut_places (kept_place marks) (2 * m) (north + east) (nw i) (sw i))

    -- of a closed set both find room where there are three entries per triangle
    module _ (closed : Closed m (λ p. kept_by m marks p ≡ true)) where
      long : length firsts + length seconds ≡ 3 * number m (kept_by m marks)
      long =
          sym (length-append firsts seconds) ∙ ap length (sym mesh_places) ∙ places_long (mesh m (kept_by m marks))
          ∙ ap (λ (n : ℕ). 3 * n) (number_triangles m (kept_by m marks) closed)

      pub both_room : {n : ℕ} → 3 * number m (kept_by m marks) ≤ n → length firsts + length seconds ≤ n
      both_room room = omega (arith, long)

      -- and stand at the buffer's beginning
      pub both_written : {buffer between after : List ℕ} {next last : ℕ} → 3 * number m (kept_by m marks) ≤ length buffer →
          Put firsts 0 buffer next between → Put seconds next between last after →
          after ≡ written_over (places_of m (mesh m (kept_by m marks))) buffer
      both_written room p q = rw mesh_places (put_over (put_both p q) (omega (arith, long, length-append firsts seconds)))
