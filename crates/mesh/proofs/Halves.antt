-- The cutting by places: a triangle that is cut leads to its halves, one behind the other, and they find room where it did; an
-- uncut one is written as it stands.
use mathlib.Core.Path.{◌≡◌, refl, sym, ap, ◌∙◌}
use mathlib.Core.Bool.{Bool, true, false, true≢false}
use mathlib.Core.List.{List, [], ◌∷◌, ◌++◌}
use Prim.Native.Nat.{ℕ, zero, suc, ◌+◌, ◌-◌, ◌%◌, ◌≤◌, ◌<◌}
use native.Mathlib.Omega.{arith}
use lib.ListN.{length, length-append, get_or, set, drop}
use lib.Seq.{length-sets, sets, sets-eq}
use Rattle.grid.specs.Grid.{midplace}
use Rattle.grid.proofs.Parity.{even_false, odd_true}
use Rattle.mesh.specs.Meshed.{written_over}
use Rattle.mesh.specs.Inner.{kept_place, in_order, is_cut, cut_places, Corners, Put}

sets_append : (xs ys buffer : List ℕ) (at : ℕ) → sets buffer at (xs ++ ys) ≡ sets (sets buffer at xs) (at + length xs) ys
sets_append [] ys buffer at = let e : at ≡ at + 0 = omega arith in ap (λ (n : ℕ). sets buffer n ys) e
sets_append (x ∷ xs) ys buffer at =
    let e : suc at + length xs ≡ at + suc (length xs) = omega arith in
    sets_append xs ys (set buffer at x) (suc at) ∙ ap (λ (n : ℕ). sets (sets (set buffer at x) (suc at) xs) n ys) e

-- one list behind the other
pub put_both : {xs ys buffer between after : List ℕ} {at next last : ℕ} → Put xs at buffer next between → Put ys next between last after →
    Put (xs ++ ys) at buffer last after
put_both {xs} {ys} {buffer} {at = at} p q =
    record {
      behind = omega (arith, p.behind, q.behind, length-append xs ys);
      holds = q.holds ∙ (λ i. sets (p.holds i) (p.behind i) ys) ∙ sym (sets_append xs ys buffer at);
    }

-- from the beginning of a buffer that has room for it
pub put_over : {xs buffer after : List ℕ} {next : ℕ} → Put xs 0 buffer next after → length xs ≤ length buffer → after ≡ written_over xs buffer
put_over {xs} {buffer} p room =
    let from : 0 + length xs ≡ length xs = omega arith in
    p.holds ∙ sets-eq xs buffer 0 (omega arith) ∙ ap (λ (n : ℕ). xs ++ drop n buffer) from

-- writing leaves the buffer as long as it was
pub put_long : {xs buffer after : List ℕ} {at next : ℕ} → Put xs at buffer next after → length after ≡ length buffer
put_long {xs} {buffer} {at = at} p = ap length p.holds ∙ length-sets buffer at xs

-- with a cut left, whether a triangle is cut is whether its midpoint is kept
pub one_left : (kept : ℕ → Bool) (k l r : ℕ) → ¬ (k ≡ 0) → kept (midplace l r) ≡ is_cut kept k l r
one_left kept zero l r some = absurd (some refl)
one_left kept (suc k) l r some = refl

-- uncut, it is written as it stands, in the order by the number of cuts left
uncut_here : (kept : ℕ → Bool) (k l a r : ℕ) → is_cut kept k l r ≡ false → cut_places kept k l a r ≡ in_order k l a r
unfolding cut_places
uncut_here kept zero l a r out = refl
uncut_here kept (suc k) l a r out = rw out

pub even_whole : (kept : ℕ → Bool) (k l a r : ℕ) → is_cut kept k l r ≡ false → k % 2 ≡ 0 → cut_places kept k l a r ≡ l ∷ a ∷ r ∷ []
even_whole kept k l a r out even = uncut_here kept k l a r out ∙ rw (even_false k even)

pub odd_whole : (kept : ℕ → Bool) (k l a r : ℕ) → is_cut kept k l r ≡ false → k % 2 ≡ 1 → cut_places kept k l a r ≡ r ∷ a ∷ l ∷ []
odd_whole kept k l a r out odd = uncut_here kept k l a r out ∙ rw (odd_true k odd)

-- with one cut left it is written as its halves
pub one_cut : (kept : ℕ → Bool) (l a r : ℕ) {c : ℕ} → c ≡ midplace l r → kept (midplace l r) ≡ true →
    cut_places kept 1 l a r ≡ (l ∷ c ∷ a ∷ []) ++ (a ∷ c ∷ r ∷ [])
unfolding cut_places
one_cut kept l a r e is = rw (is, e)

-- then it finds room for three places
pub three_room : {xs : List ℕ} {p q w : ℕ} (at : ℕ) {n : ℕ} → xs ≡ p ∷ q ∷ w ∷ [] → at + length xs ≤ n → at + 3 ≤ n
three_room at e room = omega (arith, ap length e)

-- a triangle that is cut at c, with k cuts left, and finds room in a buffer
pub record Halved (marks : List ℕ) (k l a r c at : ℕ) (buffer : List ℕ) : Type 0 where
  pub corners : Corners marks l a r
  pub middle : c ≡ midplace l r
  pub is : is_cut (kept_place marks) k l r ≡ true
  pub room : at + length (cut_places (kept_place marks) k l a r) ≤ length buffer

pub halved : {marks : List ℕ} {l a r c : ℕ} (k at : ℕ) (buffer : List ℕ) → Corners marks l a r → c ≡ midplace l r →
    is_cut (kept_place marks) k l r ≡ true → at + length (cut_places (kept_place marks) k l a r) ≤ length buffer →
    Halved marks k l a r c at buffer
halved k at buffer corners middle is room = record { corners = corners; middle = middle; is = is; room = room }

-- half i is cut between these two
abbrev pub ends : ℕ → ℕ → ℕ → ℕ → ℕ × ℕ
ends l a r i = get_or ((l, a) ∷ (a, r) ∷ []) i (0, 0)

-- what is written for half i, and for the first i halves
abbrev half : (ℕ → Bool) → ℕ → ℕ → ℕ → ℕ → ℕ → ℕ → List ℕ
half kept k l a r c i = cut_places kept (k - 1) (ends l a r i).0 c (ends l a r i).1

pub written : (ℕ → Bool) → ℕ → ℕ → ℕ → ℕ → ℕ → ℕ → List ℕ
written kept k l a r c zero = []
written kept k l a r c (suc i) = written kept k l a r c i ++ half kept k l a r c i

module _ {marks : List ℕ} {k l a r c at : ℕ} {buffer : List ℕ} (t : Halved marks k l a r c at buffer) where
  abbrev list : ℕ → ℕ → ℕ → ℕ → List ℕ
  list = cut_places (kept_place marks)

  abbrev of : ℕ → List ℕ
  of = half (kept_place marks) k l a r c

  abbrev first : ℕ → List ℕ
  first = written (kept_place marks) k l a r c

  -- it had a cut left
  pub some_left : 0 < k
  some_left = go k t.is
    where
      go : (k : ℕ) → is_cut (kept_place marks) k l r ≡ true → 0 < k
      go zero is = absurd (true≢false (sym is))
      go (suc k) is = omega arith

  -- and leads to its halves
  cut_here : list k l a r ≡ of 0 ++ of 1
  unfolding cut_places
  cut_here = go k t.is
    where
      go : (k : ℕ) → is_cut (kept_place marks) k l r ≡ true → list k l a r ≡ list (k - 1) l c a ++ list (k - 1) a c r
      go zero is = absurd (true≢false (sym is))
      go (suc k) is = let less : suc k - 1 ≡ k = omega arith in rw (is, t.middle, less)

  long : length (list k l a r) ≡ length (of 0) + length (of 1)
  long = ap length cut_here ∙ length-append (of 0) (of 1)

  apex : c < length marks
  apex = omega (arith, t.corners.ends, t.middle)

  -- a half's corners are places at which marks stand
  pub half_corners : (i : ℕ) → i < 2 → Corners marks (ends l a r i).0 c (ends l a r i).1
  half_corners zero below =
      let k = t.corners in
      record { ends = record { plain = k.ends.plain; small = k.ends.small; left = k.ends.left; right = k.apex }; apex = apex }
  half_corners (suc zero) below =
      let k = t.corners in
      record { ends = record { plain = k.ends.plain; small = k.ends.small; left = k.apex; right = k.ends.right }; apex = apex }
  half_corners (suc (suc i)) below = absurd (omega arith)

  -- and where the triangle found room it does, behind the half before
  pub half_room : (i : ℕ) {next : ℕ} {between : List ℕ} → i < 2 → Put (first i) at buffer next between → next + length (of i) ≤ length between
  unfolding written
  half_room zero below p = omega (arith, long, t.room, put_long p, p.behind)
  half_room (suc zero) below p = omega (arith, long, t.room, put_long p, p.behind)
  half_room (suc (suc i)) below p = absurd (omega arith)

  -- where the triangle has an even number of cuts left its halves have one: whether they are cut is whether their midpoint is kept
  pub odd_cut : (i : ℕ) {told : Bool} → k % 2 ≡ 0 → told ≡ kept_place marks (midplace (ends l a r i).0 (ends l a r i).1) →
      is_cut (kept_place marks) (k - 1) (ends l a r i).0 (ends l a r i).1 ≡ told
  odd_cut i even e = sym (e ∙ one_left (kept_place marks) (k - 1) (ends l a r i).0 (ends l a r i).1 (λ none. omega (arith, some_left)))

  -- an uncut half: where the triangle has an even number of cuts left it has an odd one, and the other way round
  pub odd_half : (i : ℕ) → k % 2 ≡ 0 → is_cut (kept_place marks) (k - 1) (ends l a r i).0 (ends l a r i).1 ≡ false →
      of i ≡ (ends l a r i).1 ∷ c ∷ (ends l a r i).0 ∷ []
  odd_half i even out = odd_whole (kept_place marks) (k - 1) (ends l a r i).0 c (ends l a r i).1 out (omega (arith, some_left))

  pub even_half : (i : ℕ) → k % 2 ≡ 1 → is_cut (kept_place marks) (k - 1) (ends l a r i).0 (ends l a r i).1 ≡ false →
      of i ≡ (ends l a r i).0 ∷ c ∷ (ends l a r i).1 ∷ []
  even_half i odd out = even_whole (kept_place marks) (k - 1) (ends l a r i).0 c (ends l a r i).1 out (omega (arith, some_left))

  -- nothing is written, then a half, and then it was written for the triangle
  pub none_put : Put (first 0) at buffer at buffer
  unfolding written
  none_put = record { behind = omega arith; holds = refl }

  pub half_put : (i : ℕ) {next last : ℕ} {between after : List ℕ} → Put (first i) at buffer next between → Put (of i) next between last after →
      Put (first (i + 1)) at buffer last after
  unfolding written
  half_put i p q = let e : i + 1 ≡ suc i = omega arith in rw e (put_both p q)

  pub both_put : (i : ℕ) {next : ℕ} {after : List ℕ} → i ≡ 2 → Put (first i) at buffer next after →
      Put (list k l a r) at buffer next after
  unfolding written
  both_put i two p = rw cut_here (rw two at p)
