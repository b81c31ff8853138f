-- A point lands in an uncut triangle when it goes down the cuts to it: to the first half where l weighs no less than r, to the second where it
-- weighs no more, so on the cutting line to either. What f comes to by the point's weights is the same wherever it lands. Two landings part only
-- on a side that both halves have, and on a side every landing has the value of its trace.
use mathlib.Core.Path.{◌≡◌, refl, sym, ap, ◌∙◌}
use mathlib.Core.Bool.{Bool, true, false, true≢false}
use Prim.Native.Nat.{ℕ, zero, suc, ◌+◌, ◌-◌, ◌*◌, ◌≤◌}
use native.Mathlib.Omega.{arith}
use Rattle.grid.specs.Grid.{midpoint}
use Rattle.grid.specs.Hierarchy.{Triangle, first_half, second_half}
use Rattle.grid.specs.declared.points.Point.{Point}
use Rattle.aim.specs.Walk.{Weighed, cut_of}
use Rattle.aim.proofs.Weights.{first_of, second_of}
use Rattle.surface.specs.OneMesh.{Restricted}
use Rattle.surface.proofs.Trace.{none, straight, long, leg, uncut_long, long_ends, first_part, second_part, leg_back}

-- from t, with k cuts left, the point lands in u, with n left
pub data Lands (kept : Point → Bool) : ℕ → Weighed → ℕ → Weighed → Type 0 where
  last : {t : Weighed} → Lands kept 0 t 0 t
  whole : {k : ℕ} {t : Weighed} → kept (cut_of t) ≡ false → Lands kept (suc k) t (suc k) t
  first : {k n : ℕ} {t u : Weighed} → kept (cut_of t) ≡ true → t.wr ≤ t.wl → Lands kept k (first_of t) n u → Lands kept (suc k) t n u
  second : {k n : ℕ} {t u : Weighed} → kept (cut_of t) ≡ true → t.wl ≤ t.wr → Lands kept k (second_of t) n u → Lands kept (suc k) t n u

-- what f comes to, times 4N, by the point's weights
abbrev pub mean : (Point → ℕ) → Weighed → ℕ
mean f t = t.wl * f t.l + t.wa * f t.a + t.wr * f t.r

module _ {m : ℕ} {kept : Point → Bool} (restricted : Restricted m kept) (f : Point → ℕ) where
  -- a number is the value of the trace, where the point is on the longest side, on the left leg, on the right leg
  pub record Traced (k : ℕ) (t : Weighed) (value : ℕ) : Type 0 where
    pub longest : t.wa ≡ 0 → value ≡ long kept f k t.l t.r t.wl t.wr
    pub left : t.wr ≡ 0 → value ≡ leg kept f k t.l t.a t.wl t.wa
    pub right : t.wl ≡ 0 → value ≡ leg kept f k t.a t.r t.wa t.wr

  -- an uncut triangle's legs are straight: no leg's midpoint is kept without the cut
  module _ {l a r : Point} (out : kept (midpoint l r) ≡ false) where
    straight_left : (k u v : ℕ) → Triangle m (suc k) l a r → leg kept f (suc k) l a u v ≡ straight kept f l a u v
    unfolding long leg
    straight_left zero u v t = refl
    straight_left (suc k) u v t = by (kept (midpoint l a)) refl
      where
        by : (b : Bool) → kept (midpoint l a) ≡ b → long kept f (suc k) l a u v ≡ straight kept f l a u v
        by true keeps = absurd (true≢false (sym (restricted.left t keeps) ∙ out))
        by false e = uncut_long kept f k l a u v e

    straight_right : (k u v : ℕ) → Triangle m (suc k) l a r → leg kept f (suc k) a r u v ≡ straight kept f a r u v
    unfolding long leg
    straight_right zero u v t = refl
    straight_right (suc k) u v t = by (kept (midpoint a r)) refl
      where
        by : (b : Bool) → kept (midpoint a r) ≡ b → long kept f (suc k) a r u v ≡ straight kept f a r u v
        by true keeps = absurd (true≢false (sym (restricted.right t keeps) ∙ out))
        by false e = uncut_long kept f k a r u v e

  pub traced : {k n : ℕ} {t u : Weighed} → Triangle m k t.l t.a t.r → Lands kept k t n u → Traced k t (mean f u)
  unfolding long leg
  traced {t = t} d last = record {
    longest = λ e. omega (arith, none t.wa (f t.a) 0 e);
    left = λ e. omega (arith, none t.wr (f t.r) 0 e);
    right = λ e. omega (arith, none t.wl (f t.l) 0 e);
  }
  traced {t = t} d (whole {k = k} out) = record {
    longest = λ e. omega (arith, none t.wa (f t.a) 0 e, uncut_long kept f k t.l t.r t.wl t.wr out);
    left = λ e. omega (arith, none t.wr (f t.r) 0 e, straight_left out k t.wl t.wa d);
    right = λ e. omega (arith, none t.wl (f t.l) 0 e, straight_right out k t.wa t.wr d);
  }
  traced {t = t} d (first {k = k} keeps h lands) =
      let half = traced (first_half d) lands in
      record {
        longest = λ e. half.left e ∙ sym (first_part kept f k t.l t.r t.wl t.wr keeps h);
        left = λ e. half.longest (omega arith) ∙ ap (λ (w : ℕ). long kept f k t.l t.a w t.wa) (omega arith);
        right = λ e.
            half.longest (omega arith)
            ∙ (long_ends kept f k).second t.l t.a (t.wl - t.wr) t.wa (omega arith)
            ∙ sym ((long_ends kept f k).first t.a t.r t.wa t.wr (omega arith));
      }
  traced {t = t} d (second {k = k} keeps h lands) =
      let half = traced (second_half d) lands in
      record {
        longest = λ e. half.right e ∙ sym (second_part kept f k t.l t.r t.wl t.wr keeps h);
        left = λ e.
            half.longest (omega arith)
            ∙ (long_ends kept f k).first t.a t.r t.wa (t.wr - t.wl) (omega arith)
            ∙ sym ((long_ends kept f k).second t.l t.a t.wl t.wa (omega arith));
        right = λ e. half.longest (omega arith) ∙ ap (λ (w : ℕ). long kept f k t.a t.r t.wa w) (omega arith);
      }

  -- on the cutting line both halves have the point on the leg from the cut to the apex
  parted : {k n j : ℕ} {t u v : Weighed} → Triangle m (suc k) t.l t.a t.r → t.wl ≡ t.wr →
      Lands kept k (first_of t) n u → Lands kept k (second_of t) j v → mean f u ≡ mean f v
  parted {k} {t = t} d e p q =
      let c = cut_of t in
      (traced (first_half d) p).right (omega arith)
      ∙ leg_back kept f k c t.a (2 * t.wr) t.wa
      ∙ ap (λ (w : ℕ). leg kept f k t.a c t.wa w) (omega arith)
      ∙ sym ((traced (second_half d) q).left (omega arith))

  pub same : {k n j : ℕ} {t u v : Weighed} → Triangle m k t.l t.a t.r → Lands kept k t n u → Lands kept k t j v →
      mean f u ≡ mean f v
  same d last last = refl
  same d (whole out) (whole out') = refl
  same d (whole out) (first keeps h q) = absurd (true≢false (sym keeps ∙ out))
  same d (whole out) (second keeps h q) = absurd (true≢false (sym keeps ∙ out))
  same d (first keeps h p) (whole out) = absurd (true≢false (sym keeps ∙ out))
  same d (second keeps h p) (whole out) = absurd (true≢false (sym keeps ∙ out))
  same d (first keeps h p) (first keeps' h' q) = same (first_half d) p q
  same d (second keeps h p) (second keeps' h' q) = same (second_half d) p q
  same d (first keeps h p) (second keeps' h' q) = parted d (omega arith) p q
  same d (second keeps h p) (first keeps' h' q) = sym (parted d (omega arith) q p)
