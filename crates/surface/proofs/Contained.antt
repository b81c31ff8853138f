-- The triangles of the mesh that contain a point are those in which it lands, and the triangle in which the query's walk ends is one of them.
use mathlib.Core.Path.{◌≡◌, refl, sym, ◌∙◌, subst}
use mathlib.Core.Bool.{Bool, true, false, cond}
use mathlib.Core.List.Memᴰ
use mathlib.Core.List.{List, [], ◌∷◌, ◌++◌, Memᴰ}
use mathlib.Core.Logic.{⊎_elim}
use Prim.Native.Nat.{ℕ, zero, suc, ◌+◌, ◌*◌, ◌≤◌, ◌<◌}
use native.Mathlib.Decide.{dec_le}
use native.Mathlib.Nat.{le_of_lt}
use native.Mathlib.Omega.{arith}
use Rattle.grid.specs.Hierarchy.{first_half, second_half}
use Rattle.grid.specs.declared.points.Point.{Point}
use Rattle.mesh.specs.Triangles.{Three, written, uncut}
use Rattle.aim.specs.Walk.{Weighed, Under, under, cut_of, half, walk}
use Rattle.aim.specs.Geometry.{Contains}
use Rattle.aim.proofs.Passages.{same_order}
use Rattle.aim.proofs.Weights.{Weighs, first_of, second_of, half_first, half_second, halved_first, halved_second, first_contains, second_contains}
use Rattle.surface.proofs.Landings as landings
use Rattle.surface.proofs.Landings.{Lands, last, whole}
use Rattle.surface.proofs.Within.{contains_grows, grown}

-- u, as it is written, is a triangle in which the point q lands from t, with k cuts left
pub record Landing (m : ℕ) (kept : Point → Bool) (q : Point) (k : ℕ) (t : Weighed) (u : Three) : Type 0 where
  pub left : ℕ
  pub triangle : Weighed
  pub lands : Lands kept k t left triangle
  pub weighs : Weighs m left q triangle
  pub is : u ≡ written left triangle.l triangle.a triangle.r

module _ {m : ℕ} (kept : Point → Bool) {q : Point} where
  -- from a half on
  module _ {k : ℕ} {t : Weighed} {u : Three} (keeps : kept (cut_of t) ≡ true) where
    by_first : t.wr ≤ t.wl → Landing m kept q k (first_of t) u → Landing m kept q (suc k) t u
    by_first h s = record { left = s.left; triangle = s.triangle; lands = landings.first keeps h s.lands; weighs = s.weighs; is = s.is }

    by_second : t.wl ≤ t.wr → Landing m kept q k (second_of t) u → Landing m kept q (suc k) t u
    by_second h s = record { left = s.left; triangle = s.triangle; lands = landings.second keeps h s.lands; weighs = s.weighs; is = s.is }

  pub landing : (k cuts : ℕ) {t : Weighed} {u : Three} → Weighs m k q t → k + cuts ≡ 2 * m → Memᴰ u (uncut kept k cuts t.l t.a t.r) →
      Contains u q → Landing m kept q k t u
  unfolding uncut
  landing zero cuts {t} w all i c = record {
    left = 0;
    triangle = t;
    lands = last;
    weighs = w;
    is = Memᴰ.eq_of_singleton i ∙ same_order m 0 cuts t.l t.a t.r all;
  }
  landing (suc k) cuts {t} {u} w all i c =
      by (kept (cut_of t)) refl
      (λ h j. landing k (suc cuts) (halved_first w h) (omega arith) j c)
      (λ h j. landing k (suc cuts) (halved_second w h) (omega arith) j c) i
    where
      firsts : List Three
      firsts = uncut kept k (suc cuts) t.l (cut_of t) t.a

      seconds : List Three
      seconds = uncut kept k (suc cuts) t.a (cut_of t) t.r

      -- what contains the point is below a half that does
      left : Memᴰ u firsts → t.wr ≤ t.wl
      left j = (first_contains w).0 (grown (contains_grows q) kept k (suc cuts) (first_half w.triangle) (omega arith) j c)

      right : Memᴰ u seconds → t.wl ≤ t.wr
      right j = (second_contains w).0 (grown (contains_grows q) kept k (suc cuts) (second_half w.triangle) (omega arith) j c)

      by : (b : Bool) → kept (cut_of t) ≡ b → (t.wr ≤ t.wl → Memᴰ u firsts → Landing m kept q k (first_of t) u) →
          (t.wl ≤ t.wr → Memᴰ u seconds → Landing m kept q k (second_of t) u) →
          Memᴰ u (cond b (firsts ++ seconds) (written cuts t.l t.a t.r ∷ [])) → Landing m kept q (suc k) t u
      by true keeps f g i =
          ⊎_elim (λ j. by_first keeps (left j) (f (left j) j)) (λ j. by_second keeps (right j) (g (right j) j)) (Memᴰ.append_cases firsts i)
      by false out f g i = record {
        left = suc k;
        triangle = t;
        lands = whole out;
        weighs = w;
        is = Memᴰ.eq_of_singleton i ∙ same_order m (suc k) cuts t.l t.a t.r all;
      }

module _ (m : ℕ) (kept : Point → Bool) where
  -- the walk lands where it ends
  pub walk_lands : (k : ℕ) (t : Weighed) → Lands kept k t (walk kept k t).left (walk kept k t).triangle
  unfolding walk
  walk_lands zero t = last
  walk_lands (suc k) t = by (kept (cut_of t)) refl (dec_le t.wr t.wl) (walk kept k (half t)) (walk_lands k (half t))
    where
      by : (b : Bool) → kept (cut_of t) ≡ b → Dec (t.wr ≤ t.wl) → (u : Under) → Lands kept k (half t) u.left u.triangle →
          Lands kept (suc k) t (cond b u (under t (suc k))).left (cond b u (under t (suc k))).triangle
      by true keeps (yes h) u on = landings.first keeps h (subst (λ (s : Weighed). Lands kept k s u.left u.triangle) (half_first t h) on)
      by true keeps (no h) u on =
          let l : t.wl < t.wr = omega arith in
          landings.second keeps (le_of_lt l) (subst (λ (s : Weighed). Lands kept k s u.left u.triangle) (half_second t l) on)
      by false out h u on = whole out

  -- and where a point lands is a triangle of the mesh
  pub lands_in : (k cuts : ℕ) {n : ℕ} {t u : Weighed} → k + cuts ≡ 2 * m → Lands kept k t n u →
      Memᴰ (written n u.l u.a u.r) (uncut kept k cuts t.l t.a t.r)
  unfolding uncut
  lands_in zero cuts {t = t} all last = Memᴰ.head (sym (same_order m 0 cuts t.l t.a t.r all))
  lands_in (suc k) cuts {t = t} all (whole out) = rw out (Memᴰ.head (sym (same_order m (suc k) cuts t.l t.a t.r all)))
  lands_in (suc k) cuts {t = t} all (landings.first keeps h s) =
      rw keeps (Memᴰ.append_left (uncut kept k (suc cuts) t.a (cut_of t) t.r) (lands_in k (suc cuts) (omega arith) s))
  lands_in (suc k) cuts {t = t} all (landings.second keeps h s) =
      rw keeps (Memᴰ.append_right (uncut kept k (suc cuts) t.l (cut_of t) t.a) (lands_in k (suc cuts) (omega arith) s))
