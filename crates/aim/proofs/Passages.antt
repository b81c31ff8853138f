-- The walk by weights is document 01's walk: it passes through just the triangles that the sentences lead to, meets just their
-- midpoints, and ends where they end. By induction on the cuts left, one way, and on the passage, the other.
use mathlib.Core.Path.{◌≡◌, refl, sym, ap, ◌∙◌}
use mathlib.Core.Bool.{Bool, true, false, cond, true≢false}
use mathlib.Core.List.Memᴰ
use mathlib.Core.List.{[], Memᴰ}
use mathlib.Core.Logic.{◌↔◌, ⊎_elim}
use Prim.Native.Nat.{ℕ, zero, suc, ◌+◌, ◌*◌, ◌%◌, ◌≤◌, ◌<◌}
use native.Mathlib.Omega.{arith}
use native.Mathlib.Decide.{dec_le}
use borrow.Author.Tests.{le-leb, lt-leb}
use Rattle.grid.specs.Grid.{side, in_quarters, at}
use Rattle.grid.specs.declared.points.Point.{Point}
use Rattle.grid.proofs.Cutting.{Halfway, cut}
use Rattle.grid.proofs.Sums.{false_by}
use Rattle.grid.proofs.Turning.{halfway}
use Rattle.mesh.specs.Triangles.{written}
use Rattle.mesh.specs.Rule.{CutAt}
use Rattle.mesh.proofs.Leads.{no_midpoint, at_halfway, one_midpoint}
use Rattle.aim.specs.Walk.{Weighed, Under, under, start, half, cut_of, walk, met}
use Rattle.aim.specs.Geometry.{Contains}
use Rattle.aim.specs.Rule.{Passes, first, second, first_half, second_half, Meets, Ends}
use Rattle.aim.proofs.Weights.{Weighs, started, half_first, half_second, halved, first_contains, start_contains}

-- cuts made and left are 2m in all, so both are odd or both even, and a triangle is written in the same order by either
pub same_order : (m k cuts : ℕ) (l a r : Point) → k + cuts ≡ 2 * m → written cuts l a r ≡ written k l a r
same_order m k cuts l a r e = let same : cuts % 2 ≡ k % 2 = omega arith in rw same

beyond : {i j : ℕ} → ¬ (i ≤ j) → j < i
beyond n = omega (arith, n)

-- where the midpoint is kept, the walk and what it meets go on in the half
module _ (kept : Point → Bool) (k : ℕ) (t : Weighed) (keeps : kept (cut_of t) ≡ true) where
  walk_on : walk kept (suc k) t ≡ walk kept k (half t)
  unfolding walk
  walk_on = rw keeps

  met_on : {d : Point} → Memᴰ d (met kept k (half t)) → Memᴰ d (met kept (suc k) t)
  unfolding met
  met_on i = rw keeps (Memᴰ.tail i)

-- where a walk ends is the triangle (l, a, r), made by so many cuts
pub record Lands (m : ℕ) (u : Under) (cuts : ℕ) (l a r : Point) : Type 0 where
  pub all : u.left + cuts ≡ 2 * m
  pub left : u.triangle.l ≡ l
  pub apex : u.triangle.a ≡ a
  pub right : u.triangle.r ≡ r

module _ (m : ℕ) (kept : Point → Bool) (q : Point) where
  -- the walk has come to t, with k cuts left
  pub record Come (k cuts : ℕ) (t : Weighed) : Type 0 where
    pub weighs : Weighs m k q t
    pub passes : Passes m kept q cuts t.l t.a t.r
    pub all : k + cuts ≡ 2 * m

  module _ {k cuts : ℕ} {t : Weighed} (c : Come (suc k) cuts t) where
    -- where the midpoint is kept, the triangle is cut there, and nowhere else
    here : kept (cut_of t) ≡ true → CutAt m kept t.l t.r (cut_of t)
    here keeps = let w = cut c.weighs.triangle in record { east = w.east; north = w.north; sample = w.inside; keeps = keeps }

    only_here : {d : Point} → Halfway d t.l t.r → d ≡ cut_of t
    only_here h = one_midpoint h (halfway (cut c.weighs.triangle))

    -- the first half contains the point where the walk goes to it
    goes : Contains (written (suc cuts) t.l (cut_of t) t.a) q ↔ (t.wr ≤ t.wl)
    goes = rw (same_order m k (suc cuts) t.l (cut_of t) t.a (omega (arith, c.all))) (first_contains c.weighs)

    pub next : kept (cut_of t) ≡ true → Come k (suc cuts) (half t)
    next keeps = record { weighs = halved c.weighs; passes = by (dec_le t.wr t.wl); all = omega (arith, c.all) }
      where
        by : Dec (t.wr ≤ t.wl) → Passes m kept q (suc cuts) (half t).l (half t).a (half t).r
        by (yes le) = rw (half_first t le) (first_half c.passes (here keeps) (goes.1 le))
        by (no gt) = rw (half_second t (omega arith)) (second_half c.passes (here keeps) (λ inside. gt (goes.0 inside)))

  -- where the walk ends, the triangle is not cut
  pub record Stops (u : Under) : Type 0 where
    pub made : ℕ
    pub all : u.left + made ≡ 2 * m
    pub ends : Ends m kept q made u.triangle.l u.triangle.a u.triangle.r

  pub stops : (k cuts : ℕ) (t : Weighed) → Come k cuts t → Stops (walk kept k t)
  unfolding walk
  stops zero cuts t c = record {
    made = cuts;
    all = c.all;
    ends = record { passes = c.passes; uncut = λ d h. no_midpoint c.weighs.triangle (at_halfway h) };
  }
  stops (suc k) cuts t c = by (kept (cut_of t)) refl (λ e. stops k (suc cuts) (half t) (next c e))
    where
      by : (b : Bool) → kept (cut_of t) ≡ b → (kept (cut_of t) ≡ true → Stops (walk kept k (half t))) →
          Stops (cond b (walk kept k (half t)) (under t (suc k)))
      by true e on = on e
      by false e on = record {
        made = cuts;
        all = c.all;
        ends = record {
          passes = c.passes;
          uncut = λ d h. true≢false (sym h.keeps ∙ ap kept (only_here c (at_halfway h)) ∙ e);
        };
      }

  -- every midpoint on the list is met
  pub meets : (k cuts : ℕ) (t : Weighed) → Come k cuts t → (d : Point) → Memᴰ d (met kept k t) → Meets m kept q d
  unfolding met
  meets zero cuts t c d i = absurd (Memᴰ.not-nil i)
  meets (suc k) cuts t c d i = ⊎_elim (λ e. rw e found) (λ j. by (kept (cut_of t)) refl (λ e. meets k (suc cuts) (half t) (next c e) d) j) (Memᴰ.cases_cons i)
    where
      found : Meets m kept q (cut_of t)
      found =
          let w = cut c.weighs.triangle in
          record {
            cuts = cuts;
            l = t.l;
            a = t.a;
            r = t.r;
            passes = c.passes;
            east = w.east;
            north = w.north;
            sample = w.inside;
          }

      by : (b : Bool) → kept (cut_of t) ≡ b → (kept (cut_of t) ≡ true → Memᴰ d (met kept k (half t)) → Meets m kept q d) →
          Memᴰ d (cond b (met kept k (half t)) []) → Meets m kept q d
      by true e on j = on e j
      by false e on j = absurd (Memᴰ.not-nil j)

  module _ (east : q.x ≤ in_quarters m) (north : q.y ≤ in_quarters m) where
    -- the start
    starts_first : q.y ≤ q.x → ((start m q).l ≡ at 0 0) × ((start m q).a ≡ at (side m) 0) × ((start m q).r ≡ at (side m) (side m))
    unfolding start
    starts_first h = rw (le-leb q.y q.x h) (refl, refl, refl)

    starts_second : q.x < q.y → ((start m q).l ≡ at (side m) (side m)) × ((start m q).a ≡ at 0 (side m)) × ((start m q).r ≡ at 0 0)
    unfolding start
    starts_second h = rw (lt-leb q.y q.x h) (refl, refl, refl)

    pub starting : Come (2 * m) 0 (start m q)
    starting = record { weighs = started m q east north; passes = by (dec_le q.y q.x); all = omega arith }
      where
        by : Dec (q.y ≤ q.x) → Passes m kept q 0 (start m q).l (start m q).a (start m q).r
        by (yes le) = let e = starts_first le in rw (e.0, e.1, e.2) (first ((start_contains m q east north).1 le))
        by (no gt) =
            let e = starts_second (omega arith) in
            rw (e.0, e.1, e.2) (second (λ inside. gt ((start_contains m q east north).0 inside)))

    -- what the walk passes through lies on its way: from there it goes on as from the start
    pub record On (cuts : ℕ) (l a r : Point) : Type 0 where
      pub t : Weighed
      pub k : ℕ
      pub weighs : Weighs m k q t
      pub all : k + cuts ≡ 2 * m
      pub left : t.l ≡ l
      pub apex : t.a ≡ a
      pub right : t.r ≡ r
      pub same : walk kept (2 * m) (start m q) ≡ walk kept k t
      pub further : (d : Point) → Memᴰ d (met kept k t) → Memᴰ d (met kept (2 * m) (start m q))

    -- on to one of the halves of a triangle that is cut
    advance : {cuts : ℕ} {l a r c l' a' r' : Point} (o : On cuts l a r) → CutAt m kept l r c →
        ((n : ℕ) → Weighs m (suc n) q o.t → n + suc cuts ≡ 2 * m → c ≡ cut_of o.t →
        ((half o.t).l ≡ l') × ((half o.t).a ≡ a') × ((half o.t).r ≡ r')) →
        On (suc cuts) l' a' r'
    advance {cuts} {l} {a} {r} {c} {l'} {a'} {r'} o h to = by o.k o.weighs o.all o.same o.further
      where
        between : Halfway c o.t.l o.t.r
        between = rw (o.left, o.right) (at_halfway h)

        by : (k : ℕ) → Weighs m k q o.t → k + cuts ≡ 2 * m → walk kept (2 * m) (start m q) ≡ walk kept k o.t →
            ((d : Point) → Memᴰ d (met kept k o.t) → Memᴰ d (met kept (2 * m) (start m q))) → On (suc cuts) l' a' r'
        by zero w all same further = absurd (no_midpoint w.triangle between)
        by (suc n) w all same further =
            let here : c ≡ cut_of o.t = one_midpoint between (halfway (cut w.triangle)) in
            let keeps : kept (cut_of o.t) ≡ true = rw here at h.keeps in
            let e = to n w (omega arith) here in
            record {
              t = half o.t;
              k = n;
              weighs = halved w;
              all = omega arith;
              left = e.0;
              apex = e.1;
              right = e.2;
              same = same ∙ walk_on kept n o.t keeps;
              further = λ d i. further d (met_on kept n o.t keeps i);
            }

    at_start : {l a r : Point} → ((start m q).l ≡ l) × ((start m q).a ≡ a) × ((start m q).r ≡ r) → On 0 l a r
    at_start e = record {
      t = start m q;
      k = 2 * m;
      weighs = started m q east north;
      all = omega arith;
      left = e.0;
      apex = e.1;
      right = e.2;
      same = refl;
      further = λ d i. i;
    }

    -- to the first half where it contains the point, else to the second
    module _ {cuts : ℕ} {l a r c : Point} (o : On cuts l a r) {n : ℕ} (w : Weighs m (suc n) q o.t) (all : n + suc cuts ≡ 2 * m)
        (here : c ≡ cut_of o.t) where
      chosen : Contains (written (suc cuts) l c a) q ↔ (o.t.wr ≤ o.t.wl)
      chosen = rw (← o.left, ← o.apex, here, same_order m n (suc cuts) o.t.l (cut_of o.t) o.t.a all) (first_contains w)

      to_first : Contains (written (suc cuts) l c a) q → ((half o.t).l ≡ l) × ((half o.t).a ≡ c) × ((half o.t).r ≡ a)
      to_first inside = rw (half_first o.t (chosen.0 inside)) (o.left, sym here, o.apex)

      to_second : ¬ (Contains (written (suc cuts) l c a) q) → ((half o.t).l ≡ a) × ((half o.t).a ≡ c) × ((half o.t).r ≡ r)
      to_second outside = rw (half_second o.t (beyond (λ le. outside (chosen.1 le)))) (o.apex, sym here, o.right)

    -- a midpoint that is met
    module _ {d : Point} (s : Meets m kept q d) (o : On s.cuts s.l s.a s.r) where
      between : Halfway d o.t.l o.t.r
      between = rw (o.left, o.right) (record { east = s.east; north = s.north })

    pub on : {cuts : ℕ} {l a r : Point} → Passes m kept q cuts l a r → On cuts l a r
    on (first inside) = at_start (starts_first ((start_contains m q east north).0 inside))
    on (second outside) = at_start (starts_second (beyond (λ le. outside ((start_contains m q east north).1 le))))
    on (first_half p h inside) = let o = on p in advance o h (λ n w all here. to_first o w all here inside)
    on (second_half p h outside) = let o = on p in advance o h (λ n w all here. to_second o w all here outside)

    -- so it ends in one triangle only,
    pub ends_only : {cuts : ℕ} {l a r : Point} → Ends m kept q cuts l a r → Lands m (walk kept (2 * m) (start m q)) cuts l a r
    unfolding walk
    ends_only {cuts} {l} {a} {r} e = let o = on e.passes in rw o.same (by o o.k o.weighs o.all)
      where
        by : (o : On cuts l a r) (k : ℕ) → Weighs m k q o.t → k + cuts ≡ 2 * m → Lands m (walk kept k o.t) cuts l a r
        by o zero w all = record { all = all; left = o.left; apex = o.apex; right = o.right }
        by o (suc k) w all =
            let c = cut w.triangle in
            let uncut : kept (cut_of o.t) ≡ false =
            false_by (kept (cut_of o.t))
            (λ keeps. e.uncut (cut_of o.t)
            (rw (← o.left, ← o.right) (record { east = c.east; north = c.north; sample = c.inside; keeps = keeps })))
            in
            rw uncut (record { all = all; left = o.left; apex = o.apex; right = o.right })

    -- and meets no other midpoints than those on the list
    pub meets_only : {d : Point} → Meets m kept q d → Memᴰ d (met kept (2 * m) (start m q))
    unfolding met
    meets_only {d} s = let o = on s.passes in by o o.k o.weighs o.further
      where
        by : (o : On s.cuts s.l s.a s.r) (k : ℕ) → Weighs m k q o.t →
            ((e : Point) → Memᴰ e (met kept k o.t) → Memᴰ e (met kept (2 * m) (start m q))) →
            Memᴰ d (met kept (2 * m) (start m q))
        by o zero w further = absurd (no_midpoint w.triangle (between s o))
        by o (suc k) w further = further d (Memᴰ.head (one_midpoint (between s o) (halfway (cut w.triangle))))
