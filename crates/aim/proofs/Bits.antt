-- A height of the triangle in which a walk ended is one of 16 bits, none void; so a float holds heights by their weights, and tilts.
use mathlib.Core.Path.{◌≡◌, refl, ◌∙◌}
use mathlib.Core.List.{List}
use Prim.Native.Nat.{ℕ, ◌+◌, ◌*◌, ◌^◌, ◌≤◌, ◌<◌}
use native.Mathlib.Nat.{mul-le-mul_right}
use native.Mathlib.Omega.{arith}
use lib.IntN.{ℤ}
use lib.Signed.{mag, nat_abs-le}
use mir.Syntax.{w16}
use mir.Val.{SFits, to_z, of_z}
use mir.Facts.{to_z-of_z}
use Rattle.grid.specs.Grid.{is_void, highest, in_quarters, largest, widest}
use Rattle.grid.proofs.Places.{side_small}
use Rattle.selection.proofs.Exact.{Exact, times}
use Rattle.aim.specs.Quotient.{format, Representable}
use Rattle.aim.specs.Aimed.{tilt}
use Rattle.aim.specs.Inner.{standing, share, weighted_in, Light, Footing}
use Rattle.aim.specs.declared.walk.Corner.{Corner}
use Rattle.aim.specs.declared.walk.Reached.{Reached}
use Rattle.aim.proofs.Either.{none}
use Rattle.aim.proofs.Bounds.{quarters_power, is_height}
use Rattle.aim.proofs.Planes.{weighted_most, tilt_most}

-- a height that the code was told, and hands on
pub seen : {h z : ℤ} → mag h < 32768 → h ≡ z → Exact (to_z w16 (of_z w16 h)) z 32768
seen {h} l e = let f : SFits w16 h = record { sfits = l } in record { same = to_z-of_z f ∙ e; size = rw (← e) (nat_abs-le h l) }

-- what a corner adds, as the code was told
pub share_told : {v : ℤ} (heights : List ℤ) (c : Corner) → c.weight ≤ in_quarters largest → SFits w16 (standing heights c) →
    v ≡ share heights c → Exact v (share heights c) 16777216
share_told heights c l f e =
    let h : Exact (standing heights c) (standing heights c) 32768 = record { same = refl; size = nat_abs-le (standing heights c) f.sfits } in
    record { same = e; size = omega (arith, (times c.weight h).size, mul-le-mul_right 32768 l) }

module _ {m : ℕ} {marks : List ℕ} {heights : List ℤ} {t : Reached} (small : m ≤ largest) (f : Footing m marks heights t) where
  pub light : Light t
  light = omega (arith, f.weights, side_small small)

  -- the height times 4N, over 4N
  pub weighted_fits : Representable format (weighted_in heights t) (in_quarters m)
  unfolding weighted_in
  weighted_fits =
      let v = none (is_void (standing heights t.l)) (is_void (standing heights t.a)) (is_void (standing heights t.r)) f.surveyed in
      let most =
      weighted_most t.l.weight t.a.weight t.r.weight (standing heights t.l) (standing heights t.a) (standing heights t.r) highest
      (is_height (standing heights t.l) f.stored.left.sfits v.0)
      (is_height (standing heights t.a) f.stored.apex.sfits v.1)
      (is_height (standing heights t.r) f.stored.right.sfits v.2)
      in
      record {
        power = 2 + m;
        is = quarters_power m;
        few = omega (arith, small);
        whole = omega (arith, most, mul-le-mul_right highest light);
      }

-- a tilt of samples, over a triangle's doubled area
pub tilt_fits : {u v w hp hq hw : ℤ} {cp cq cw left : ℕ} → Exact u hp 32768 → Exact v hq 32768 → Exact w hw 32768 →
    cp ≤ widest → cq ≤ widest → cw ≤ widest → left ≤ 2 * largest → Representable format (tilt hp hq hw cp cq cw) (2 ^ left)
tilt_fits {hp = hp} {hq = hq} {hw = hw} {cp = cp} {cq = cq} {cw = cw} {left = left} p q w kp kq kw few = record {
  power = left;
  is = refl;
  few = omega arith;
  whole = omega (arith, tilt_most hp hq hw cp cq cw 32768 widest p.size q.size w.size kp kq kw);
}
