-- `aim::ground::Landing::ground_by` meets its contract: the slopes times the doubled area, which is 2 to the cuts left, over it.
use mathlib.Core.Path.{◌≡◌, ap, ◌∙◌}
use Prim.Native.Nat.{ℕ, ◌*◌, ◌%◌, ◌^◌, ◌≤◌, ◌<◌}
use native.Mathlib.Omega.{arith}
use lib.Ieee.{Float}
use lib.IntN.{ℤ}
use lib.Signed.{mag}
use Rattle.grid.specs.Grid.{largest, widest, samples, point}
use Rattle.grid.specs.declared.points.Point.{Point}
use Rattle.grid.proofs.Places.{side_small, shifted, point_inside}
use Rattle.selection.proofs.Exact.{Exact}
use Rattle.aim.specs.Quotient.{format, quotient, Representable}
use Rattle.aim.specs.Aimed.{tilt}
use Rattle.aim.specs.Inner.{standing, ground_by}
use Rattle.aim.specs.declared.walk.Corner.{Corner}
use Rattle.aim.specs.declared.ground.Landing.{Landing}
use Rattle.aim.proofs.Products.{in32, arrives}
use Rattle.aim.proofs.Bits.{seen, tilt_fits}
use Rattle.aim.proofs.ground.Landing.ground_by.Goals as goal

-- a point of the grid
beside : {m i : ℕ} {a : Point} → m ≤ largest → i < samples m → a ≡ point m i → (a.x ≤ widest) × (a.y ≤ widest)
beside {m} {i} small below is =
    let h = point_inside m i below in
    let n = side_small small in
    rw is (omega (arith, h.east, n), omega (arith, h.north, n))

-- a tilt that the code was told
told : {r u v w x y z : ℤ} {a b c d e f n : ℕ} → mag r < 2147483648 → r ≡ tilt u v w a b c → Exact u x n → Exact v y n → Exact w z n →
    a ≡ d → b ≡ e → c ≡ f → in32 r ≡ tilt x y z d e f
told {r} ok is p q w d e f = arrives r ok ∙ is ∙ (λ i. tilt (p.same i) (q.same i) (w.same i) (d i) (e i) (f i))

-- what the code was told of the three corners
module _ (e : Landing) (p q w : Corner) (s : (p.place < samples e.grid.m) × (q.place < samples e.grid.m) × (w.place < samples e.grid.m))
    {a b d : Point} (first : a ≡ point e.grid.m p.place) (second : b ≡ point e.grid.m q.place) (third : d ≡ point e.grid.m w.place) where
  east_places : (a.y ≤ widest) × (b.y ≤ widest) × (d.y ≤ widest)
  east_places =
      let small = e.grid.sound.small in
      ((beside small s.0 first).1, (beside small s.1 second).1, (beside small s.2 third).1)

  north_places : (d.x ≤ widest) × (b.x ≤ widest) × (a.x ≤ widest)
  north_places =
      let small = e.grid.sound.small in
      ((beside small s.2 third).0, (beside small s.1 second).0, (beside small s.0 first).0)

  few : e.end.left ≤ 2 * largest
  few = omega (arith, e.footing.cuts, e.grid.sound.small)

  module _ {x y z r : ℤ} (hp : Exact x (standing e.heights.now p) 32768) (hq : Exact y (standing e.heights.now q) 32768)
      (hw : Exact z (standing e.heights.now w) 32768) (ok : mag r < 2147483648) where
    module _ (is : r ≡ tilt x y z a.y b.y d.y) where
      east_fits : Representable format (in32 r) (1 * 2 ^ e.end.left % 4294967296)
      east_fits =
          rw (arrives r ok, is, shifted few)
          (rw (hp.same, hq.same, hw.same) (tilt_fits hp hq hw east_places.0 east_places.1 east_places.2 few))

      east : {g : Float} → g ≡ quotient format (in32 r) (1 * 2 ^ e.end.left % 4294967296) →
          g ≡ (ground_by e.grid.m e.heights.now e.end p q w).east
      unfolding ground_by
      east k =
          let same = told ok is hp hq hw (ap (λ (t : Point). t.y) first) (ap (λ (t : Point). t.y) second) (ap (λ (t : Point). t.y) third) in
          k ∙ (λ i. quotient format (same i) (shifted few i))

    module _ (is : r ≡ tilt z y x d.x b.x a.x) where
      north_fits : Representable format (in32 r) (1 * 2 ^ e.end.left % 4294967296)
      north_fits =
          rw (arrives r ok, is, shifted few)
          (rw (hp.same, hq.same, hw.same) (tilt_fits hw hq hp north_places.0 north_places.1 north_places.2 few))

      north : {g : Float} → g ≡ quotient format (in32 r) (1 * 2 ^ e.end.left % 4294967296) →
          g ≡ (ground_by e.grid.m e.heights.now e.end p q w).north
      unfolding ground_by
      north k =
          let same = told ok is hw hq hp (ap (λ (t : Point). t.x) third) (ap (λ (t : Point). t.x) second) (ap (λ (t : Point). t.x) first) in
          k ∙ (λ i. quotient format (same i) (shifted few i))

pub tilt-requires : goal.tilt-requires
tilt-requires c = east_places c.args.self.now c.args.p c.args.q c.args.w c.requires c.point-first.ensures c.point-second.ensures c.point-third.ensures

pub quotient-requires : goal.quotient-requires
quotient-requires c =
    let hp = seen c.height-hp.type_inv c.height-hp.ensures in
    let hq = seen c.height-hq.type_inv c.height-hq.ensures in
    let hw = seen c.height-hw.type_inv c.height-hw.ensures in
    east_fits c.args.self.now c.args.p c.args.q c.args.w c.requires c.point-first.ensures c.point-second.ensures c.point-third.ensures hp hq hw c.tilt.type_inv c.tilt.ensures

pub tilt-requires-2 : goal.tilt-requires-2
tilt-requires-2 c = north_places c.args.self.now c.args.p c.args.q c.args.w c.requires c.point-first.ensures c.point-second.ensures c.point-third.ensures

pub quotient-requires-2 : goal.quotient-requires-2
quotient-requires-2 c =
    let hp = seen c.height-hp.type_inv c.height-hp.ensures in
    let hq = seen c.height-hq.type_inv c.height-hq.ensures in
    let hw = seen c.height-hw.type_inv c.height-hw.ensures in
    north_fits c.args.self.now c.args.p c.args.q c.args.w c.requires c.point-first.ensures c.point-second.ensures c.point-third.ensures hp hq hw c.tilt-2.type_inv c.tilt-2.ensures

pub returns : goal.returns
unfolding ground_by
returns c =
    let hp = seen c.height-hp.type_inv c.height-hp.ensures in
    let hq = seen c.height-hq.type_inv c.height-hq.ensures in
    let hw = seen c.height-hw.type_inv c.height-hw.ensures in
    let e = c.args.self.now in
    let to_east = east e c.args.p c.args.q c.args.w c.requires c.point-first.ensures c.point-second.ensures c.point-third.ensures hp hq hw c.tilt.type_inv c.tilt.ensures c.quotient.ensures in
    let to_north = north e c.args.p c.args.q c.args.w c.requires c.point-first.ensures c.point-second.ensures c.point-third.ensures hp hq hw c.tilt-2.type_inv c.tilt-2.ensures c.quotient-2.ensures in
    λ i. record { height = c.height.ensures i; east = to_east i; north = to_north i }
