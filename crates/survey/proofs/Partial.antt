-- Keeping a found height in the list changes no height: a partly filled list has the heights of the list it came from.
-- So partly filling goes on from itself, and one more found height kept is still a partly filled list.
use mathlib.Core.Path.{◌≡◌, refl, sym, ap, ◌∙◌, subst}
use mathlib.Core.Bool.{Bool, true, false, true≢false}
use mathlib.Core.Logic.{◌⊎◌, inl, inr, ⊎_elim}
use mathlib.Core.List.{List}
use Prim.Native.Nat.{ℕ, zero, suc, ◌≤◌, ◌<◌}
use native.Mathlib.Decide.{ℕ_discrete}
use native.Mathlib.Omega.{arith}
use lib.ListN.{length, get_or, set, length-set}
use lib.Seq.{get_or-set_same, get_or-set_other}
use lib.IntN.{ℤ}
use Rattle.grid.specs.Grid.{void, is_void, samples, place, point, Inside}
use Rattle.grid.specs.Points.{ends}
use Rattle.grid.specs.declared.points.Point.{Point}
use Rattle.grid.proofs.Spaced.{corner_inside}
use Rattle.grid.proofs.Places.{place_below, point_place, point_inside}
use Rattle.survey.specs.Filled.{floor_mean, sample, height_by, height_of, CornersSurveyed}
use Rattle.survey.specs.Inner.{Ready, depth, Stands, Partly}
use Rattle.survey.proofs.Reading.{sample_place}
use Rattle.survey.proofs.Filling.{ends_up, height_by_lem, height_surveyed, height_void}

-- what a point's sample may be in a partly filled list
abbrev Either : ℕ → List ℤ → List ℤ → Point → Type 0
Either m survey heights p = (sample m heights p ≡ sample m survey p) ⊎ (sample m heights p ≡ height_of m survey p)

pub at_point : (m : ℕ) (survey heights : List ℤ) → Partly m survey heights → (p : Point) → Inside m p → Either m survey heights p
unfolding sample
at_point m survey heights part p h =
    subst
    (λ (q : Point). (get_or heights (place m p) void ≡ get_or survey (place m p) void) ⊎ (get_or heights (place m p) void ≡ height_of m survey q))
    (point_place m p h)
    (part.each (place m p) (place_below m p h))

module _ (m : ℕ) (survey heights : List ℤ) (part : Partly m survey heights) where
  -- a sample that is not void any more has its height, and one that still is was void before
  pub settled : (p : Point) → Either m survey heights p → is_void (sample m heights p) ≡ false → sample m heights p ≡ height_of m survey p
  settled p (inr e) n = e
  settled p (inl e) n = e ∙ sym (height_surveyed m survey p (ap is_void (sym e) ∙ n))

  still_void : (p : Point) → Either m survey heights p → is_void (sample m heights p) ≡ true → is_void (sample m survey p) ≡ true
  still_void p (inl e) v = ap is_void (sym e) ∙ v
  still_void p (inr e) v = go (is_void (sample m survey p)) refl
    where
      go : (t : Bool) → is_void (sample m survey p) ≡ t → is_void (sample m survey p) ≡ true
      go true f = f
      go false f = absurd (true≢false (sym v ∙ ap is_void (e ∙ height_surveyed m survey p f) ∙ f))

  by_void : (d : ℕ) (p : Point) → Inside m p → (t : Bool) → is_void (sample m heights p) ≡ t →
      ((q : Point) → Inside m q → depth m q ≤ d → height_by d m heights q ≡ height_of m survey q) → depth m p ≤ suc d →
      height_by (suc d) m heights p ≡ height_of m survey p
  unfolding height_by
  by_void d p h false n below l = rw n (settled p (at_point m survey heights part p h) n)
  by_void d p h true v below l =
      let u = ends_up m p h in
      let a = below (ends m p).first u.0.inside (omega (arith, u.0.less)) in
      let b = below (ends m p).second u.1.inside (omega (arith, u.1.less)) in
      rw v ((λ i. floor_mean (a i) (b i)) ∙ sym (height_void m survey p h (still_void p (at_point m survey heights part p h) v)))

  same_by : (d : ℕ) (p : Point) → Inside m p → depth m p ≤ d → height_by d m heights p ≡ height_of m survey p
  unfolding height_by
  same_by zero p h l = ⊎_elim (λ e. e ∙ height_by_lem m survey p h 0 l) (λ e. e) (at_point m survey heights part p h)
  same_by (suc d) p h l = by_void d p h (is_void (sample m heights p)) refl (λ q i k. same_by d q i k) l

  pub partly_same : (p : Point) → Inside m p → height_of m heights p ≡ height_of m survey p
  unfolding height_of
  partly_same p h = same_by m p h (omega arith)

  -- no grid corner has become void
  pub still_cornered : CornersSurveyed m survey → CornersSurveyed m heights
  still_cornered c p e =
      let s = height_surveyed m survey p (c p e) in
      ⊎_elim (λ f. ap is_void f ∙ c p e) (λ f. ap is_void (f ∙ s) ∙ c p e) (at_point m survey heights part p (corner_inside m p e))

-- so filling may go on
pub ready_on : {m : ℕ} {a b : List ℤ} → Ready m a → Partly m a b → Ready m b
ready_on {m} {a} {b} r part =
    record { long = part.long ∙ r.long; corners = still_cornered m a b part r.corners }

pub partly_none : (m : ℕ) (survey : List ℤ) → Partly m survey survey
partly_none m survey = record { long = refl; each = λ i h. inl refl }

pub partly_then : (m : ℕ) (a b c : List ℤ) → Partly m a b → Partly m b c → Partly m a c
partly_then m a b c p q =
    record {
      long = q.long ∙ p.long;
      each = λ i h.
          ⊎_elim (λ e. ⊎_elim (λ f. inl (e ∙ f)) (λ f. inr (e ∙ f)) (p.each i h))
          (λ e. inr (e ∙ partly_same m a b p (point m i) (point_inside m i h)))
          (q.each i h);
    }

-- a height that stood stands
pub stays : (m : ℕ) (a b : List ℤ) → Partly m a b → (i : ℕ) → i < samples m → Stands a i → Stands b i
stays m a b part i l h = go (part.each i l)
  where
    go : (get_or b i void ≡ get_or a i void) ⊎ (get_or b i void ≡ height_of m a (point m i)) → Stands b i
    go (inl e) = ap is_void e ∙ h
    go (inr e) =
        let same = sample_place m a i in
        ap is_void (e ∙ height_surveyed m a (point m i) (ap is_void same ∙ h) ∙ same) ∙ h

-- the height of a place of the survey, kept there
pub partly_kept : (m : ℕ) (a b : List ℤ) (i : ℕ) → i < length b → Partly m a b → Partly m a (set b i (height_of m a (point m i)))
partly_kept m a b i room part =
    record { long = length-set b i (height_of m a (point m i)) ∙ part.long; each = λ k l. go k l (ℕ_discrete k i) }
  where
    kept : ℤ
    kept = height_of m a (point m i)

    go : (k : ℕ) → k < samples m → Dec (k ≡ i) → (get_or (set b i kept) k void ≡ get_or a k void) ⊎ (get_or (set b i kept) k void ≡ height_of m a (point m k))
    go k l (yes e) =
        inr
        (ap (λ (n : ℕ). get_or (set b i kept) n void) e
        ∙ get_or-set_same b i kept void room
        ∙ ap (λ (n : ℕ). height_of m a (point m n)) (sym e))
    go k l (no d) =
        let same = get_or-set_other b i k kept void d in
        ⊎_elim (λ e. inl (same ∙ e)) (λ e. inr (same ∙ e)) (part.each k l)
