-- The mesh as it is worked out is what cutting leads to, and nothing else is: a triangle of the hierarchy with no cut left has no
-- sample at its midpoint, and two midpoints of the same two points are the same point.
use mathlib.Core.Path.{◌≡◌, refl, sym, ap, ◌∙◌, subst}
use mathlib.Core.Bool.{Bool, true, false, cond, true≢false}
use mathlib.Core.List.{List, [], ◌∷◌, ◌++◌}
use Prim.Native.Nat.{ℕ, zero, suc, ◌*◌}
use native.Mathlib.Omega.{arith}
use Rattle.grid.specs.Grid.{midpoint}
use Rattle.grid.specs.Hierarchy.{Triangle, first, second, first_half, second_half}
use Rattle.grid.specs.declared.points.Point.{Point}
use Rattle.grid.proofs.Around.{same_point}
use Rattle.grid.proofs.Cutting.{Halfway, cut}
use Rattle.grid.proofs.Turning.{halfway, turns, first_half_lem}
use Rattle.mesh.specs.Triangles.{Three, written, uncut, mesh}
use Rattle.mesh.specs.Rule.{CutAt, Leads, whole, halves, Uncut}

-- with no cut left the midpoint of the longest side is no sample: the doubled area, 1, would be even
pub no_midpoint : {m : ℕ} {l a r c : Point} → Triangle m 0 l a r → Halfway c l r → ⊥
no_midpoint {l = l} {a = a} {r = r} {c = c} t h = omega (arith, (turns t).even refl, first_half_lem l a r c h)

pub at_halfway : {m : ℕ} {kept : Point → Bool} {l r c : Point} → CutAt m kept l r c → Halfway c l r
at_halfway h = record { east = h.east; north = h.north }

pub one_midpoint : {l r c d : Point} → Halfway c l r → Halfway d l r → c ≡ d
one_midpoint h i = same_point (omega arith) (omega arith)

module _ (m : ℕ) (kept : Point → Bool) where
  leads : (k cuts : ℕ) {l a r : Point} → Triangle m k l a r → Leads m kept cuts l a r (uncut kept k cuts l a r)
  unfolding uncut
  leads zero cuts t = whole (λ c h. no_midpoint t (at_halfway h))
  leads (suc k) cuts {l} {a} {r} t =
      by (kept (midpoint l r)) refl (leads k (suc cuts) (first_half t)) (leads k (suc cuts) (second_half t))
    where
      by : (b : Bool) → kept (midpoint l r) ≡ b → {ts us : List Three} → Leads m kept (suc cuts) l (midpoint l r) a ts →
          Leads m kept (suc cuts) a (midpoint l r) r us → Leads m kept cuts l a r (cond b (ts ++ us) (written cuts l a r ∷ []))
      by true e p q =
          let c = cut t in
          halves (midpoint l r) (record { east = c.east; north = c.north; sample = c.inside; keeps = e }) p q
      by false e p q =
          whole (λ d h. true≢false (sym h.keeps ∙ ap kept (one_midpoint (at_halfway h) (halfway (cut t))) ∙ e))

  leads_only : {cuts : ℕ} {l a r : Point} {ts us : List Three} → Leads m kept cuts l a r ts → Leads m kept cuts l a r us → ts ≡ us
  leads_only (whole n) (whole n') = refl
  leads_only (whole n) (halves c h p q) = absurd (n c h)
  leads_only (halves c h p q) (whole n) = absurd (n c h)
  leads_only (halves {cuts = cuts} {l = l} {a = a} {r = r} c h p q) (halves {ts = ts} {us = us} c' h' p' q') =
      let e : c' ≡ c = one_midpoint (at_halfway h') (at_halfway h) in
      λ i. leads_only p (subst (λ (d : Point). Leads m kept (suc cuts) l d a ts) e p') i
      ++ leads_only q (subst (λ (d : Point). Leads m kept (suc cuts) a d r us) e q') i

  pub mesh_is : Uncut m kept (mesh m kept)
  unfolding mesh
  mesh_is = record { firsts = _; seconds = _; first = leads (2 * m) 0 first; second = leads (2 * m) 0 second; both = refl }

  pub mesh_only : {ts : List Three} → Uncut m kept ts → ts ≡ mesh m kept
  mesh_only h = h.both ∙ (λ i. leads_only h.first mesh_is.first i ++ leads_only h.second mesh_is.second i) ∙ sym mesh_is.both
