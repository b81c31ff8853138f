-- All marks are good if those of the grid corners are and those between them: on the south border, in the rows between the borders,
-- and on the north border. For the four lie at the places 0, N, N·(N+1) and N·(N+1)+N, which is the last one.
use mathlib.Core.Path.{◌≡◌, refl, sym, ap, ◌∙◌}
use mathlib.Core.Logic.{◌≢◌, ◌↔◌}
use mathlib.Core.Bool.{Bool, true, false, true≢false, ◌&&◌, and-true, and_assoc, and-eq-true_iff}
use mathlib.Core.List.{List, [], ◌∷◌, Memᴰ}
use Prim.Native.Nat.{ℕ, ◌+◌, ◌-◌, ◌*◌, ◌≤◌, ◌<◌}
use lib.ListN.{length, get_or, drop}
use Rattle.std.specs.List.{fold}
use Rattle.std.proofs.lemmas.List.{length-take-le, length-drop, get_or-take, get_or-drop}
use native.Mathlib.Decide.{dec_lt}
use native.Mathlib.Omega.{arith}
use Rattle.grid.specs.Grid.{side, samples, place, point, Inside}
use Rattle.grid.specs.Points.{is_corner}
use Rattle.grid.specs.Mark.{left_out, good_mark}
use Rattle.grid.specs.declared.points.Point.{Point}
use Rattle.grid.proofs.Members.{All, all}
use Rattle.grid.proofs.Places.{place_below, place_point, point_place, point_inside}
use Rattle.grid.proofs.Spaced.{corner_inside}
use Rattle.grid.proofs.Sums.{false_by}
use Rattle.selection.specs.Marks.{mark_at}
use Rattle.grid.specs.Grid.{corners}
use Rattle.selection.proofs.Corners.{corner_in, listed_corner}
use Rattle.selection.proofs.Rule.{same_test}
use Rattle.mesh.specs.Closed.{every, good_marks}
use Rattle.mesh.specs.Inner.{good_inner}
use Rattle.mesh.proofs.Every.{every_in, in_every, at_in, in_at, slice}
use Rattle.mesh.proofs.Closing.{good_marks_lem}

module _ (f : ℕ → Bool) where
  -- asked one after the other, they are asked all
  pub fold_every : (b : Bool) (l : List ℕ) → fold (λ all a. all && f a) b l ≡ (b && every f l)
  fold_every b [] = sym (and-true b)
  fold_every b (a ∷ l) = fold_every (b && f a) l ∙ and_assoc b (f a) (every f l)

  every_slice : (l : List ℕ) (from to : ℕ) → to ≤ length l →
      (every f (slice from to l) ≡ true) ↔ ((k : ℕ) → from ≤ k → k < to → f (get_or l k left_out) ≡ true)
  every_slice l from to room = (
    λ e k a b.
        let i : k - from < to - from = omega arith in
        let here : from + (k - from) ≡ k = omega arith in
        let is = get_or-take (to - from) (drop from l) (k - from) left_out i ∙ get_or-drop from l (k - from) left_out ∙ ap (λ (j : ℕ). get_or l j left_out) here in
        ap f (sym is) ∙ every_in f (slice from to l) e (at_in (slice from to l) (k - from) left_out (rw long i)),
    λ all.
        in_every f (slice from to l)
        (λ q k.
        let w = in_at (slice from to l) left_out k in
        let i : w.0 < to - from = omega (arith, w.1, long) in
        ap f (w.2 ∙ get_or-take (to - from) (drop from l) w.0 left_out i ∙ get_or-drop from l w.0 left_out)
        ∙ all (from + w.0) (omega arith) (omega arith)),
  )
    where
      long : length (slice from to l) ≡ to - from
      long = length-take-le (to - from) (drop from l) (omega (arith, length-drop from l))

module _ (m : ℕ) where
  -- no grid corner lies at this place
  abbrev Between : ℕ → Type 0
  Between i = All (λ q. i ≢ place m q) (corners m)

  between_inner : (i : ℕ) → Between i → is_corner m (point m i) ≡ false
  between_inner i apart =
      false_by (is_corner m (point m i))
      (λ c. all (λ q. i ≢ place m q) (corners m) apart (corner_in m (point m i) c) (sym (place_point m i)))

  inner_between : (p : Point) → Inside m p → is_corner m p ≡ false → Between (place m p)
  inner_between p h inner = each (corners m) (λ q i. apart q (listed_corner m q i))
    where
      apart : (q : Point) → is_corner m q ≡ true → place m p ≢ place m q
      apart q c e =
          let same = sym (point_place m p h) ∙ ap (point m) e ∙ point_place m q (corner_inside m q c) in
          true≢false (sym c ∙ ap (is_corner m) (sym same) ∙ inner)

      each : (qs : List Point) → ((q : Point) → Memᴰ q qs → place m p ≢ place m q) → All (λ q. place m p ≢ place m q) qs
      each [] no_such = tt
      each (q ∷ qs) no_such = (no_such q (Memᴰ.head refl), each qs (λ r i. no_such r (Memᴰ.tail i)))

-- the place of the north-west corner
abbrev pub nw : ℕ → ℕ
nw n = n * (n + 1)

module _ (m : ℕ) (marks : List ℕ) where
  -- the marks of the four are good
  abbrev pub four : Bool
  four = every (λ p. good_mark true (mark_at m marks p)) (corners m)

module _ (marks : List ℕ) where
  -- and those of the three runs between them, on a grid of n cells a side
  abbrev pub south : ℕ → Bool
  south n = every (good_mark false) (slice 1 n marks)

  abbrev pub rows : ℕ → Bool
  rows n = every (good_mark false) (slice (n + 1) (nw n) marks)

  abbrev pub north : ℕ → Bool
  north n = every (good_mark false) (slice (nw n + 1) (nw n + n) marks)

-- as the code asks
pub run_told : {r : Bool} (l : List ℕ) → r ≡ fold (λ all mark. all && good_mark false mark) true l → r ≡ every (good_mark false) l
run_told l e = e ∙ fold_every (good_mark false) true l

module _ (m : ℕ) (marks : List ℕ) (long : length marks ≡ samples m) where
  abbrev parts : ℕ → Bool
  parts n = ((four m marks && south marks n) && rows marks n) && north marks n

  abbrev inner : ℕ → Type 0
  inner i = good_inner marks i ≡ true

  run : (from to : ℕ) → to ≤ samples m → (every (good_mark false) (slice from to marks) ≡ true) ↔ ((i : ℕ) → from ≤ i → i < to → inner i)
  run from to l = every_slice (good_mark false) marks from to (rw long l)

  to_parts : good_marks m marks ≡ true → parts (side m) ≡ true
  unfolding place
  to_parts good =
      let n = side m in
      rw (
        in_every (λ p. good_mark true (mark_at m marks p)) (corners m) (λ p i. at_corner p (listed_corner m p i)),
        between 1 n (omega arith) (λ i a b. omega arith),
        between (n + 1) (nw n) (omega arith) (λ i a b. omega arith),
        between (nw n + 1) (nw n + n) (omega arith) (λ i a b. omega arith),
      )
    where
      at_corner : (p : Point) → is_corner m p ≡ true → good_mark true (mark_at m marks p) ≡ true
      at_corner p c = rw c at ((good_marks_lem m marks).0 good p (corner_inside m p c))

      at_place : (i : ℕ) → i < samples m → Between m i → inner i
      at_place i l apart =
          rw (between_inner m i apart, place_point m i) at ((good_marks_lem m marks).0 good (point m i) (point_inside m i l))

      between : (from to : ℕ) → to ≤ samples m → ((i : ℕ) → from ≤ i → i < to → Between m i) → every (good_mark false) (slice from to marks) ≡ true
      between from to l apart = (run from to l).1 (λ i a b. at_place i (omega arith) (apart i a b))

  -- a place between the grid corners lies on the south border, in the rows between, or on the north border
  in_run_lem : south marks (side m) ≡ true → rows marks (side m) ≡ true → north marks (side m) ≡ true → (i : ℕ) → i < samples m → Between m i → inner i
  unfolding place
  in_run_lem s r t i l apart = go (dec_lt i (side m)) (dec_lt i (nw (side m)))
    where
      go : Dec (i < side m) → Dec (i < nw (side m)) → inner i
      go (yes k) d = (run 1 (side m) (omega arith)).0 s i (omega arith) k
      go (no j) (yes k) = (run (side m + 1) (nw (side m)) (omega arith)).0 r i (omega arith) k
      go (no j) (no k) = (run (nw (side m) + 1) (nw (side m) + side m) (omega arith)).0 t i (omega arith) (omega arith)

  of_parts : parts (side m) ≡ true → good_marks m marks ≡ true
  of_parts e =
      let n = side m in
      let a = (and-eq-true_iff ((four m marks && south marks n) && rows marks n) (north marks n)).0 e in
      let b = (and-eq-true_iff (four m marks && south marks n) (rows marks n)).0 a.0 in
      let c = (and-eq-true_iff (four m marks) (south marks n)).0 b.0 in
      let here = in_run_lem c.1 b.1 a.1 in
      (good_marks_lem m marks).1
      (λ p h. by p c.0 (λ out. here (place m p) (place_below m p h) (inner_between m p h out)) (is_corner m p) refl)
    where
      by : (p : Point) → four m marks ≡ true → (is_corner m p ≡ false → inner (place m p)) →
          (t : Bool) → is_corner m p ≡ t → good_mark t (mark_at m marks p) ≡ true
      by p corner away true c = every_in (λ q. good_mark true (mark_at m marks q)) (corners m) corner (corner_in m p c)
      by p corner away false c = away c

  pub in_parts : {n : ℕ} → n ≡ side m → good_marks m marks ≡ parts n
  in_parts e = same_test (good_marks m marks) (parts (side m)) (to_parts, of_parts) ∙ ap parts (sym e)
