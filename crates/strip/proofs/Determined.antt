-- K1's sentences leave one strip for a list of triangles: two different corners leave one third corner, of the ways to begin a triangle one has the
-- corner first that is not on its way out, and the older place is repeated or it is not.
use mathlib.Core.Path.{◌≡◌, sym, ap, ◌∙◌, subst}
use mathlib.Core.Bool.{true, false, ◌||◌, or-true}
use mathlib.Core.Logic.{◌≢◌, inl, inr, ne_comm}
use mathlib.Core.List.{List, [], ◌∷◌}
use Prim.Native.Nat.{ℕ}
use borrow.Author.Tests.{eq-eqb, ne_eqb}
use lib.Dec.{eqb}
use Rattle.strip.specs.Strip.{Corners, corners, other_than, going_on, strip_of}
use Rattle.strip.specs.Reading.{Alike}
use Rattle.strip.specs.Rule.{Corner, Third, Goes, last, straight, turn, Strip, starts}
use Rattle.strip.proofs.Corner.{on_way, off_way}
use Rattle.strip.proofs.Passing.{Begun, first, second, third}
use Rattle.strip.proofs.Sharing.{corner_first, begun_so}

module _ {o n w : ℕ} {t : Corners} (apart : o ≢ n) (h : Third o n t w) where
  -- the new place is none of the pair, and the places of the pair are
  new : {p : ℕ} → w ≡ p → (eqb p o || eqb p n) ≡ false
  new {p} e = rw (ne_eqb p o (λ k. h.not_older (e ∙ k)), ne_eqb p n (λ k. h.not_newer (e ∙ k)))

  old : {p : ℕ} → o ≡ p → (eqb p o || eqb p n) ≡ true
  old {p} e = rw (eq-eqb p o (sym e))

  young : {p : ℕ} → n ≡ p → (eqb p o || eqb p n) ≡ true
  young {p} e = rw (eq-eqb p n (sym e), or-true)

  pub third_only : w ≡ other_than o n t
  third_only = by h.third h.old h.young
    where
      by : Corner t w → Corner t o → Corner t n → w ≡ other_than o n t
      by (inl a) b c = rw (new a) a
      by (inr (inl a)) (inl b) c = rw (old b, new a) a
      by (inr (inl a)) (inr (inl b)) c = absurd (h.not_older (a ∙ sym b))
      by (inr (inl a)) (inr (inr b)) (inl c) = rw (young c, new a) a
      by (inr (inl a)) (inr (inr b)) (inr (inl c)) = absurd (h.not_newer (a ∙ sym c))
      by (inr (inl a)) (inr (inr b)) (inr (inr c)) = absurd (apart (b ∙ sym c))
      by (inr (inr a)) (inl b) (inl c) = absurd (apart (b ∙ sym c))
      by (inr (inr a)) (inl b) (inr (inl c)) = rw (old b, young c) a
      by (inr (inr a)) (inl b) (inr (inr c)) = absurd (h.not_newer (a ∙ sym c))
      by (inr (inr a)) (inr (inl b)) (inl c) = rw (young c, old b) a
      by (inr (inr a)) (inr (inl b)) (inr (inl c)) = absurd (apart (b ∙ sym c))
      by (inr (inr a)) (inr (inl b)) (inr (inr c)) = absurd (h.not_newer (a ∙ sym c))
      by (inr (inr a)) (inr (inr b)) c = absurd (h.not_older (a ∙ sym b))

goes_only : {o n : ℕ} {ts : List Corners} {s : List ℕ} → o ≢ n → Goes o n ts s → s ≡ going_on o n ts
unfolding going_on
goes_only apart (last h) = λ i. third_only apart h i ∷ []
goes_only apart (straight {new = new} {next = next} h w g) =
    rw ((on_way next h.young).1 w, ← third_only apart h) (ap (λ (l : List ℕ). new ∷ l) (goes_only (ne_comm.0 h.not_newer) g))
goes_only {o} apart (turn {new = new} {next = next} h w g) =
    rw ((off_way next h.young).1 w, ← third_only apart h) (ap (λ (l : List ℕ). o ∷ new ∷ l) (goes_only (ne_comm.0 h.not_older) g))

begun_at : {p q w : ℕ} {t : Corners} → Alike (corners p q w) t → Begun p q w t
begun_at {p} {q} {w} (inl a) = subst (λ (t : Corners). Begun p q w t) a first
begun_at {p} {q} {w} (inr (inl a)) =
    subst (λ (t : Corners). Begun p q w t) (λ i. corners (a i).third (a i).first (a i).second) second
begun_at {p} {q} {w} (inr (inr a)) =
    subst (λ (t : Corners). Begun p q w t) (λ i. corners (a i).second (a i).third (a i).first) third

pub strip_only : (ts : List Corners) (s : List ℕ) → Strip ts s → s ≡ strip_of ts
unfolding strip_of
strip_only ts s (starts {p = p} {q = q} {w = w} {next = next} a v u apart n g) =
    let b = begun_at a in
    rw (begun_so next b ((off_way next (corner_first b)).1 n) ((on_way next v.here).1 v) ((on_way next u.here).1 u))
    (ap (λ (l : List ℕ). p ∷ q ∷ w ∷ l) (goes_only apart g))
