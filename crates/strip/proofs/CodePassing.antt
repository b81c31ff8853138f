-- The ring as it is passed: what triangles lay one behind the other, a cut triangle as its halves, and the bounds that a pass keeps. A triangle lays
-- at most three places, so one with k cuts left leads to at most 3·2^k of them.
use mathlib.Core.Path.{◌≡◌, refl, sym, ap, ◌∙◌, subst}
use mathlib.Core.Bool.{Bool, true, false, cond, true≢false}
use mathlib.Core.List.{List, [], ◌∷◌, ◌++◌, append-nil, append_assoc}
use Prim.Native.Nat.{ℕ, zero, suc, ◌+◌, ◌-◌, ◌*◌, ◌^◌, ◌≤◌}
use native.Mathlib.Nat.{pow-suc}
use native.Mathlib.Omega.{arith}
use lib.Pow.{pow_pos}
use lib.ListN.{length, length-append}
use Rattle.std.specs.Prelude.{Option, Some, None}
use Rattle.grid.specs.Grid.{midplace}
use Rattle.grid.specs.Points.{odd}
use Rattle.mesh.specs.Inner.{kept_place, is_cut}
use Rattle.strip.specs.Inner.{passage, Running, runs, pair, across, first_half, second_half, passages, passages_of, turns_by, shared_by, Step, Steps, Passes, gone_on, first_by, taken_by, taken, laid, ran, Laid, Passable}
use Rattle.strip.specs.declared.ring.Side.{Side}
use Rattle.strip.specs.declared.ring.Side.TheVariants.{Leg, Longest}
use Rattle.strip.specs.declared.ring.Passage.{Passage}
use Rattle.strip.specs.declared.ring.Laying.{Laying}
use Rattle.strip.proofs.CodeLaid.{laid_both}

laid_append : (s : Running) (ts us : List Passage) → laid s (ts ++ us) ≡ laid s ts ++ laid (ran s ts) us
unfolding laid ran
laid_append s [] us = refl
laid_append s (t ∷ ts) us =
    ap (λ (l : List ℕ). (taken t s).places ++ l) (laid_append (taken t s).next ts us)
    ∙ sym (append_assoc (taken t s).places (laid (taken t s).next ts) (laid (ran (taken t s).next ts) us))

ran_append : (s : Running) (ts us : List Passage) → ran s (ts ++ us) ≡ ran (ran s ts) us
unfolding ran
ran_append s [] us = refl
ran_append s (t ∷ ts) us = ran_append (taken t s).next ts us

-- a triangle that is not cut is passed as it stands
pub whole : (marks : List ℕ) (t : Passage) → is_cut (kept_place marks) t.left t.l t.r ≡ false → passages_of marks t ≡ t ∷ []
unfolding passages
whole marks t out = go t.left out
  where
    go : (k : ℕ) → is_cut (kept_place marks) k t.l t.r ≡ false →
        passages (kept_place marks) k t.l t.a t.r t.comes t.goes ≡ passage t.l t.a t.r k t.comes t.goes ∷ []
    go zero out = refl
    go (suc k) out = rw out

module _ (marks : List ℕ) (t : Passage) (is : is_cut (kept_place marks) t.left t.l t.r ≡ true) where
  -- it had a cut left
  pub some_left : 1 ≤ t.left
  some_left = go t.left is
    where
      go : (k : ℕ) → is_cut (kept_place marks) k t.l t.r ≡ true → 1 ≤ k
      go zero is = absurd (true≢false (sym is))
      go (suc k) is = omega arith

  pub halves : passages_of marks t ≡ passages_of marks (first_half t) ++ passages_of marks (second_half t)
  unfolding passages
  halves = go t.left is
    where
      go : (k : ℕ) → is_cut (kept_place marks) k t.l t.r ≡ true →
          passages (kept_place marks) k t.l t.a t.r t.comes t.goes
          ≡ passages (kept_place marks) (k - 1) t.l (midplace t.l t.r) t.a (across t.comes) (Some Leg)
          ++ passages (kept_place marks) (k - 1) t.a (midplace t.l t.r) t.r (Some Leg) (across t.goes)
      go zero is = absurd (true≢false (sym is))
      go (suc k) is = let less : suc k - 1 ≡ k = omega arith in rw (is, less)

-- a step of at most three places
record Small (step : Step) (s : Running) : Type 0 where
  at : step.next.at ≡ s.at + length step.places
  most : length step.places ≤ 3

module _ (t : Passage) (s : Running) where
  gone_small : (older third : ℕ) (near turn : Bool) → turns_by t.goes s.near ≡ turn → Small (gone_on t older third near s) s
  gone_small older third near true e = rw e (record { at = refl; most = omega arith })
  gone_small older third near false e = rw e (record { at = refl; most = omega arith })

  first_small : (goes : Option Side) (odd : Bool) → Small (first_by goes odd t s) s
  first_small None true = record { at = refl; most = omega arith }
  first_small None false = record { at = refl; most = omega arith }
  first_small (Some Leg) true = record { at = refl; most = omega arith }
  first_small (Some Leg) false = record { at = refl; most = omega arith }
  first_small (Some Longest) true = record { at = refl; most = omega arith }
  first_small (Some Longest) false = record { at = refl; most = omega arith }

  small : (comes : Option Side) → Small (taken_by comes t s) s
  small None = first_small t.goes (odd t.left)
  small (Some Leg) = gone_small (shared_by t.goes t) t.r true _ refl
  small (Some Longest) = gone_small t.r t.a false _ refl

-- where it leaves off: behind all that is laid
pub ran_at : (s : Running) (ts : List Passage) → (ran s ts).at ≡ s.at + length (laid s ts)
unfolding laid ran
ran_at s [] = omega arith
ran_at s (t ∷ ts) =
    omega (arith, ran_at (taken t s).next ts, (small t s t.comes).at, length-append (taken t s).places (laid (taken t s).next ts))

-- a pass of at most so many places
abbrev pub Bounded : Running → List Passage → ℕ → Type 0
Bounded s ts n = length (laid s ts) ≤ n

bounded_one : (t : Passage) (s : Running) → Bounded s (t ∷ []) 3
unfolding laid
bounded_one t s = omega (arith, (small t s t.comes).most, ap length (append-nil (taken t s).places))

pub bounded_both : (s : Running) (ts us : List Passage) {n k : ℕ} → Bounded s ts n → Bounded (ran s ts) us k → Bounded s (ts ++ us) (n + k)
bounded_both s ts us p q =
    omega (arith, p, q, ap length (laid_append s ts us), length-append (laid s ts) (laid (ran s ts) us))

pub bounded : (kept : ℕ → Bool) (k l a r : ℕ) (comes goes : Option Side) (s : Running) → Bounded s (passages kept k l a r comes goes) (3 * 2 ^ k)
unfolding passages
bounded kept zero l a r comes goes s = bounded_one (passage l a r zero comes goes) s
bounded kept (suc k) l a r comes goes s =
    by (kept (midplace l r)) _ _ (bounded kept k l (midplace l r) a (across comes) (Some Leg) s) (bounded kept k a (midplace l r) r (Some Leg) (across goes) _)
  where
    by : (cut : Bool) (ts us : List Passage) → Bounded s ts (3 * 2 ^ k) → Bounded (ran s ts) us (3 * 2 ^ k) →
        Bounded s (cond cut (ts ++ us) (passage l a r (suc k) comes goes ∷ [])) (3 * 2 ^ suc k)
    by true ts us p q = omega (arith, pow-suc 2 k, bounded_both s ts us p q)
    by false ts us p q = omega (arith, pow-suc 2 k, pow_pos k, bounded_one (passage l a r (suc k) comes goes) s)

-- behind a triangle come into by a leg, the newer place is at the next corner; so behind what a cut one leads to
gone_near : (t : Passage) (s : Running) (turn : Bool) → turns_by t.goes s.near ≡ turn → (gone_on t (shared_by t.goes t) t.r true s).next.near ≡ true
gone_near t s true e = rw e
gone_near t s false e = rw e

leg_near : (kept : ℕ → Bool) (k l a r : ℕ) (goes : Option Side) (s : Running) → (ran s (passages kept k l a r (Some Leg) goes)).near ≡ true
unfolding passages ran
leg_near kept zero l a r goes s = gone_near (passage l a r zero (Some Leg) goes) s _ refl
leg_near kept (suc k) l a r goes s = by (kept (midplace l r)) (λ x. leg_near kept k a (midplace l r) r (across goes) x)
  where
    ts : List Passage
    ts = passages kept k l (midplace l r) a (Some Longest) (Some Leg)

    us : List Passage
    us = passages kept k a (midplace l r) r (Some Leg) (across goes)

    by : (cut : Bool) → ((x : Running) → (ran x us).near ≡ true) → (ran s (cond cut (ts ++ us) (passage l a r (suc k) (Some Leg) goes ∷ []))).near ≡ true
    by true second = ap (λ (x : Running). x.near) (ran_append s ts us) ∙ second (ran s ts)
    by false second = gone_near (passage l a r (suc k) (Some Leg) goes) s _ refl

-- a cut triangle is left so
pub cut_near : (marks : List ℕ) (t : Passage) (s : Running) → is_cut (kept_place marks) t.left t.l t.r ≡ true → (ran s (passages_of marks t)).near ≡ true
cut_near marks t s is =
    ap (λ (list : List Passage). (ran s list).near) (halves marks t is)
    ∙ ap (λ (x : Running). x.near) (ran_append s (passages_of marks (first_half t)) (passages_of marks (second_half t)))
    ∙ leg_near (kept_place marks) (t.left - 1) t.a (midplace t.l t.r) t.r (across t.goes) (ran s (passages_of marks (first_half t)))

-- what a pass promises, of one triangle and of one list behind another
pub behind : {g h : Laying} (ts : List Passage) → Passes ts g h → pair h ≡ ran (pair g) ts
behind {g} {h} ts p = let at : h.at ≡ (ran (pair g) ts).at = p.laid.behind ∙ sym (ran_at (pair g) ts) in λ i. runs (p.newer i) (at i)

pub passed_one : {g h : Laying} (t : Passage) → Steps (taken t (pair g)) g h → Passes (t ∷ []) g h
unfolding laid ran
passed_one {g} {h} t w =
    record {
      lent = w.lent;
      newer = w.newer;
      laid = subst (λ (list : List ℕ). Laid list g.at g.places.now h.at h.places.now) (sym (append-nil (taken t (pair g)).places)) w.laid;
    }

pub passed_both : {g h last : Laying} (ts us : List Passage) → Passes ts g h → Passes us h last → Passes (ts ++ us) g last
passed_both {g} {h} {last} ts us p q =
    let e = behind ts p in
    let second : Laid (laid (ran (pair g) ts) us) h.at h.places.now last.at last.places.now =
    subst (λ (list : List ℕ). Laid list h.at h.places.now last.at last.places.now) (ap (λ (x : Running). laid x us) e) q.laid in
    record {
      lent = q.lent ∙ p.lent;
      newer = q.newer ∙ ap (λ (x : Running). (ran x us).near) e ∙ sym (ap (λ (x : Running). x.near) (ran_append (pair g) ts us));
      laid = subst (λ (list : List ℕ). Laid list g.at g.places.now last.at last.places.now) (sym (laid_append (pair g) ts us)) (laid_both p.laid second);
    }

pub passed_as : {g h : Laying} {ts us : List Passage} → ts ≡ us → Passes us g h → Passes ts g h
passed_as {g} {h} e p = subst (λ (list : List Passage). Passes list g h) (sym e) p

-- a triangle that is not cut, taken as it stands
pub passed_uncut : {g h : Laying} (marks : List ℕ) (t : Passage) → is_cut (kept_place marks) t.left t.l t.r ≡ false → Steps (taken t (pair g)) g h →
    Passes (passages_of marks t) g h
passed_uncut marks t isnt w = passed_as (whole marks t isnt) (passed_one t w)

-- a cut one, passed by its halves, as the code has them
pub passed_halves : {g h last : Laying} {one two : Passage} (marks : List ℕ) (t : Passage) → is_cut (kept_place marks) t.left t.l t.r ≡ true →
    (one ≡ first_half t) × (two ≡ second_half t) → Passes (passages_of marks one) g h → Passes (passages_of marks two) h last →
    Passes (passages_of marks t) g last
passed_halves {one = one} {two} marks t is e p q =
    passed_as (halves marks t is ∙ (λ i. passages_of marks (sym e.0 i) ++ passages_of marks (sym e.1 i)))
    (passed_both (passages_of marks one) (passages_of marks two) p q)

-- within bounds, the first half is passed within bounds, and then the second
module _ (marks : List ℕ) (t : Passage) (s : Running) (ok : Passable marks t s) where
  module _ (is : is_cut (kept_place marks) t.left t.l t.r ≡ true) where
    twice : 2 ^ t.left ≡ 2 ^ (t.left - 1) * 2
    twice =
        let more : t.left ≡ suc (t.left - 1) = omega (arith, some_left marks t is) in
        ap (λ (k : ℕ). 2 ^ k) more ∙ pow-suc 2 (t.left - 1)

    pub first_passable : Passable marks (first_half t) s
    first_passable =
        let k = ok.corners.ends in
        record {
          corners = record {
            ends = record { plain = k.plain; small = k.small; left = k.left; right = ok.corners.apex };
            apex = omega (arith, k);
          };
          few = omega (arith, ok.few);
          short = omega (arith, ok.short, twice);
        }

    pub second_passable : Passable marks (second_half t) (ran s (passages_of marks (first_half t)))
    second_passable =
        let k = ok.corners.ends in
        record {
          corners = record {
            ends = record { plain = k.plain; small = k.small; left = ok.corners.apex; right = k.right };
            apex = omega (arith, k);
          };
          few = omega (arith, ok.few);
          short = omega (
            arith,
            ok.short,
            twice,
            ran_at s (passages_of marks (first_half t)),
            bounded (kept_place marks) (t.left - 1) t.l (midplace t.l t.r) t.a (across t.comes) (Some Leg) s,
          );
        }
