-- `survey::spacings::Filling::fill_end`, `fill_run` and `fill_void` meet their contracts.
use mathlib.Core.Path.{◌≡◌, ◌∙◌}
use Rattle.std.proofs.Common.{rules}
use Prim.Native.Nat.{ℕ, ◌+◌, ◌-◌, ◌≤◌, ◌<◌}
use native.Mathlib.Omega.{arith}
use lib.ListN.{length, get_or, set}
use lib.IntN.{pos}
use mir.Syntax.{w16}
use mir.Val.{SFits, to_z, of_z}
use mir.Facts.{to_z-of_z}
use Rattle.grid.specs.Grid.{samples, largest, point}
use Rattle.grid.proofs.Places.{point_inside, samples_small}
use Rattle.survey.specs.Filled.{floor_mean}
use Rattle.survey.specs.Left.{Leaves}
use Rattle.survey.specs.declared.spacings.Filling.{Filling}
use Rattle.survey.specs.Inner.{Ready, VoidAt, Stands, Swept, depth}
use Rattle.survey.proofs.Finding.{Reached, reached, void_at, alone, kept}
use Rattle.survey.proofs.Leaving.{left_none, left_stood, left_then, left_swept, asked}
use Rattle.survey.proofs.Partial.{stays, ready_on}
use Rattle.survey.proofs.Reading.{read_at, fits_at, tested}
use Rattle.survey.proofs.Runs.{along_first, along_on, along_last, spread_here, deep_here}
use Rattle.survey.proofs.spacings.Filling.+filling.Goals as goal
use Rattle.survey.proofs.spacings.Filling.+filling.Goals.{fill_run-then-is_void, fill_run-else-is_void, fill_void-then-is_void, fill_void-else-is_void, fill_void-then-is_void-2, fill_void-else-is_void-2, fill_void-Joined-is_void, fill_void-Joined-is_void-2, fill_void-After-floor_mean-mean}

pub fill_end-fill_run-requires : goal.fill_end-fill_run-requires
fill_end-fill_run-requires t c =
    let end = void_at c.args.self.now.heights.now c.args.self.now.ready.corners (point_inside _ _ c.requires.0) c.requires.1 c.reach_at.ensures in
    (omega (arith, c.decreases), alone end)

pub fill_run-loop-i-init : goal.fill_run-loop-i-init
fill_run-loop-i-init t c = left_none _ (along_first _)

pub fill_run-fill_void-requires : goal.fill_run-fill_void-requires
fill_run-fill_void-requires t c =
    let s = c.requires in
    let here = c.loop-i.invariant in
    let taken = c.loop-i-test.true in
    let room : c.loop-i.i < length c.loop-i.self.heights.now = omega (arith, taken, s.inside, c.args.self.now.ready.long, here.swept.partly.long) in
    let deep =
    asked here (λ m. depth m (point m c.loop-i.i) ≡ depth c.args.self.now.grid.m (point c.args.self.now.grid.m c.args.from))
    (deep_here s here.swept.stand taken) in
    let void : VoidAt c.args.self.now.grid.m c.loop-i.self.heights.now c.loop-i.i c.args.reach = record {
      spread = spread_here s here.swept.stand taken;
      is = tested c.loop-i.self.heights.now room (search rules) c.is_void.ensures c.if-is_void.true;
    } in
    (omega (arith, c.decreases, deep), asked here (λ m. VoidAt m c.loop-i.self.heights.now c.loop-i.i c.args.reach) void)

pub fill_run-loop-i-preserved : goal.fill_run-loop-i-preserved
fill_run-loop-i-preserved t c =
    let s = c.requires in
    let here = c.loop-i.invariant in
    let taken = c.loop-i-test.true in
    let room : c.loop-i.i < length c.loop-i.self.heights.now = omega (arith, taken, s.inside, c.args.self.now.ready.long, here.swept.partly.long) in
    let now : Leaves c.loop-i.self c.if-is_void.self (Stands c.if-is_void.self.heights.now c.loop-i.i) =
    elim c.if-is_void.branch [
      | fill_run-then-is_void w ↦ rw w.self-is w.fill_void.ensures
      | fill_run-else-is_void w ↦
          left_stood _ w.self-is (tested c.loop-i.self.heights.now room (search rules) c.is_void.ensures w.if-is_void.false)
    ] in
    left_then here now (along_on s here.swept.stand taken (left_swept here now))

pub fill_run-returns : goal.fill_run-returns
fill_run-returns t c =
    let here = c.loop-i.invariant in
    record { grid = here.grid; lent = here.lent; swept = record { partly = here.swept.partly; stand = along_last c.requires here.swept.stand c.loop-i-test.false } }

-- the ends of a void and itself are places of the grid
ends : (f : Filling) {i reach : ℕ} → VoidAt f.grid.m f.heights.now i reach →
    Reached f.grid.m i reach × (length f.heights.now ≡ samples f.grid.m) × (samples f.grid.m ≤ samples largest)
ends f void = (reached void.spread, f.ready.long, samples_small f.grid.sound.small)

-- past the first test a height stands at the end before
first : (t : ℕ) (c : fill_void-Joined-is_void t) →
    Leaves c.args.self.now c.if-is_void.self (Stands c.if-is_void.self.heights.now (c.args.i - c.args.reach))
first t c =
    let r = ends c.args.self.now c.requires in
    elim c.if-is_void.branch [
      | fill_void-then-is_void w ↦ rw w.self-is w.fill_end.ensures
      | fill_void-else-is_void w ↦
          left_stood _ w.self-is
          (tested c.args.self.now.heights.now (omega (arith, r)) (search rules) c.is_void.ensures w.if-is_void.false)
    ]

-- past the second at both
second : (t : ℕ) (c : fill_void-Joined-is_void-2 t) →
    Leaves c.args.self.now c.if-is_void-2.self
    (Stands c.if-is_void-2.self.heights.now (c.args.i - c.args.reach) × Stands c.if-is_void-2.self.heights.now (c.args.i + c.args.reach))
second t c =
    let r = ends c.args.self.now c.requires in
    let one = first t (goal.at.fill_void-bounds-self-before-2 t c).Joined-is_void in
    let two : Leaves c.if-is_void.self c.if-is_void-2.self (Stands c.if-is_void-2.self.heights.now (c.args.i + c.args.reach)) =
    elim c.if-is_void-2.branch [
      | fill_void-then-is_void-2 w ↦ rw w.self-is w.fill_end-then-is_void-2.ensures
      | fill_void-else-is_void-2 w ↦
          left_stood _ w.self-is
          (tested c.if-is_void.self.heights.now (omega (arith, r, one.swept.partly.long)) (search rules) c.is_void-2.ensures
          w.if-is_void-2.false)
    ] in
    left_then one two (stays _ _ _ (left_swept one two).partly _ (omega (arith, r)) one.swept.stand, two.swept.stand)

-- the mean is the void's height
mean : (t : ℕ) (c : fill_void-After-floor_mean-mean t) →
    let h = c.if-is_void-2.self.heights.now in
    let z = to_z w16 (of_z w16 c.floor_mean-mean.result) in
    Swept c.args.self.now.grid.m c.args.self.now.heights.now (set h c.args.i z) (Stands (set h c.args.i z) c.args.i)
mean t c =
    let r = ends c.args.self.now c.requires in
    let both = second t (goal.at.fill_void-offset_bounds-self-i t c).Joined-is_void-2 in
    let h = c.if-is_void-2.self.heights.now in
    let low : c.args.i - c.args.reach < length h = omega (arith, r, both.swept.partly.long) in
    let high : c.args.i + c.args.reach < length h = omega (arith, r, both.swept.partly.long) in
    let x : SFits w16 (get_or h (c.args.i - c.args.reach) (pos 0)) = record { sfits = c.floor_mean-arg-1.given } in
    let y : SFits w16 (get_or h (c.args.i + c.args.reach) (pos 0)) = record { sfits = c.floor_mean-arg-2-1.given } in
    let fits : SFits w16 c.floor_mean-mean.result = search rules in
    let is = to_z-of_z fits ∙ c.floor_mean-mean.ensures ∙ (λ k. floor_mean (read_at h low x k) (read_at h high y k)) in
    kept _ _ _ _ _ r.1 c.requires both.swept.partly both.swept.stand.0 both.swept.stand.1 (fits_at h low x) (fits_at h high y) is

pub fill_void-overflow_sub-before : goal.fill_void-overflow_sub-before
fill_void-overflow_sub-before t c =
    (ends c.args.self.now c.requires).0.back

pub fill_void-overflow_add-behind : goal.fill_void-overflow_add-behind
fill_void-overflow_add-behind t c =
    record { fits = omega (arith, ends c.args.self.now c.requires) }

pub fill_void-offset_bounds-self-before : goal.fill_void-offset_bounds-self-before
fill_void-offset_bounds-self-before t c =
    record { fits = omega (arith, ends c.args.self.now c.requires) }

pub fill_void-offset_bounds-self-behind : goal.fill_void-offset_bounds-self-behind
fill_void-offset_bounds-self-behind t c =
    record { fits = omega (arith, ends c.args.self.now c.requires) }

pub fill_void-offset_bounds-self-before-2 : goal.fill_void-offset_bounds-self-before-2
fill_void-offset_bounds-self-before-2 t c =
    record { fits = omega (arith, ends c.args.self.now c.requires) }

pub fill_void-offset_bounds-self-behind-2 : goal.fill_void-offset_bounds-self-behind-2
fill_void-offset_bounds-self-behind-2 t c =
    record { fits = omega (arith, ends c.args.self.now c.requires) }

pub fill_void-offset_bounds-self-i : goal.fill_void-offset_bounds-self-i
fill_void-offset_bounds-self-i t c =
    record { fits = omega (arith, ends c.args.self.now c.requires) }

pub fill_void-bounds-self-before : goal.fill_void-bounds-self-before
fill_void-bounds-self-before t c =
    omega (arith, ends c.args.self.now c.requires)

pub fill_void-bounds-self-behind : goal.fill_void-bounds-self-behind
fill_void-bounds-self-behind t c =
    omega (arith, ends c.args.self.now c.requires, (first t (goal.at.fill_void-bounds-self-behind t c).Joined-is_void).swept.partly.long)

pub fill_void-bounds-self-before-2 : goal.fill_void-bounds-self-before-2
fill_void-bounds-self-before-2 t c =
    omega (arith, ends c.args.self.now c.requires, (second t (goal.at.fill_void-bounds-self-before-2 t c).Joined-is_void-2).swept.partly.long)

pub fill_void-bounds-self-behind-2 : goal.fill_void-bounds-self-behind-2
fill_void-bounds-self-behind-2 t c =
    omega (arith, ends c.args.self.now c.requires, (second t (goal.at.fill_void-bounds-self-behind-2 t c).Joined-is_void-2).swept.partly.long)

pub fill_void-bounds-self-i : goal.fill_void-bounds-self-i
fill_void-bounds-self-i t c =
    omega (arith, ends c.args.self.now c.requires, (second t (goal.at.fill_void-bounds-self-i t c).Joined-is_void-2).swept.partly.long)

pub fill_void-fill_end-requires : goal.fill_void-fill_end-requires
fill_void-fill_end-requires t c =
    let r = ends c.args.self.now c.requires in
    let void = tested c.args.self.now.heights.now (omega (arith, r)) (search rules) c.is_void.ensures c.if-is_void.true in
    (omega (arith, c.decreases, r.0.before.1), (omega (arith, r), void))

pub fill_void-fill_end-requires-then-is_void-2 : goal.fill_void-fill_end-requires-then-is_void-2
fill_void-fill_end-requires-then-is_void-2 t c =
    let r = ends c.args.self.now c.requires in
    let one = first t (goal.at.fill_void-fill_end-requires-then-is_void-2 t c).Joined-is_void in
    let void =
    tested c.if-is_void.self.heights.now (omega (arith, r, one.swept.partly.long)) (search rules) c.is_void-2.ensures
    c.if-is_void-2.true in
    let less =
    asked one (λ m. depth m (point m (c.args.i + c.args.reach)) < depth c.args.self.now.grid.m (point c.args.self.now.grid.m c.args.i))
    r.0.behind.1 in
    (omega (arith, c.decreases, less), (asked one (λ m. c.args.i + c.args.reach < samples m) r.0.on, void))

pub fill_void-invariant_of-self : goal.fill_void-invariant_of-self
fill_void-invariant_of-self t c =
    let both = second t (goal.at.fill_void-invariant_of-self t c).Joined-is_void-2 in
    let h = set c.if-is_void-2.self.heights.now c.args.i (to_z w16 (of_z w16 c.floor_mean-mean.result)) in
    record { ready = asked both (λ m. Ready m h) (ready_on c.args.self.now.ready (mean t c).partly) }

pub fill_void-returns : goal.fill_void-returns
fill_void-returns t c =
    let at = goal.at.fill_void-returns t c in
    let both = second t at.Joined-is_void-2 in
    record { grid = both.grid; lent = both.lent; swept = mean t at.After-floor_mean-mean }
