-- The answers by what the code found: of a refusal, its number; of the triangle in which the walk ended, the height, its origin and the plane.
use mathlib.Core.Path.{◌≡◌, sym, ap, ◌∙◌}
use mathlib.Core.Bool.{Bool, cond}
use mathlib.Core.Logic.{◌≢◌}
use Prim.Native.Nat.{ℕ}
use lib.Ieee.{Float}
use Rattle.grid.specs.Refusal.{accepted, number}
use Rattle.grid.specs.declared.refusals.Refusal.{Refusal}
use Rattle.grid.proofs.Refused.{refused as never}
use Rattle.survey.specs.Filled.{sample}
use Rattle.aim.specs.Aimed.{Handed, ended, refusal, height_in, surveyed, filled, says, no_ground, plane_answer, plane_at}
use Rattle.aim.specs.Aimed.{CornersSixteen, AnswersHeight, AnswersPlane, height_at}
use Rattle.aim.specs.Inner.{height_here, filled_in, ground_at}
use Rattle.aim.specs.Found.{Lands}
use Rattle.aim.specs.declared.GroundPlane.{GroundPlane}
use Rattle.aim.specs.declared.HeightAnswer.TheVariants.{Refused}
use Rattle.aim.specs.declared.ground.Landing.{Landing}
use Rattle.aim.proofs.Accepted.{accepted_handed}
use Rattle.aim.proofs.Placing.{filled_placed, weighted_placed, ground_placed}
use Rattle.aim.proofs.Grounds.{weighs}
use Rattle.aim.proofs.Answered as answered

-- the walk ended here
module _ {h : Handed} (e : Landing) (l : Lands h e) where
  -- what stands at its corners stands at the corners of the final triangle
  pub sixteen : CornersSixteen h
  unfolding sample
  sixteen = let s = rw (l.heights, l.end) at e.footing.stored in record { left = s.left; apex = s.apex; right = s.right }

  height_is : says accepted (cond (filled_in e.marks.now e.end) filled surveyed) (height_here e.grid.m e.heights.now e.end) ≡ height_at h
  unfolding height_in
  height_is =
      rw (l.size, l.marks, l.heights, l.end, filled_placed h.m h.marks (ended h), weighted_placed h.m h.heights (ended h))
      (sym (answered.height_taken h l.taken))

  plane_is : plane_answer accepted (ground_at e.grid.m e.heights.now e.end) ≡ plane_at h
  plane_is =
      rw (l.size, l.heights, l.end, ground_placed h.m h.heights (ended h) (weighs h (accepted_handed h l.taken).within))
      (sym (answered.plane_taken h l.taken))

  -- x and f are what the code was told of the height, and whether it was filled
  pub height_ended : {x : Float} {f : Bool} → x ≡ height_here e.grid.m e.heights.now e.end → f ≡ filled_in e.marks.now e.end →
      says accepted (cond f filled surveyed) x ≡ height_at h
  height_ended k f = (λ i. says accepted (cond (f i) filled surveyed) (k i)) ∙ height_is

  pub plane_ended : {p : GroundPlane} → p ≡ ground_at e.grid.m e.heights.now e.end → AnswersPlane h (plane_answer accepted p)
  plane_ended k = record { answer = ap (plane_answer accepted) k ∙ plane_is; sixteen = λ ok. sixteen }

-- the call was turned down; n is what the code was told of the number
module _ (h : Handed) (r : Refusal) {n : ℕ} (told : n ≡ number r) (is : refusal h ≡ number r) where
  turned : refusal h ≢ accepted
  turned ok = never r (sym is ∙ ok)

  same : n ≡ refusal h
  same = told ∙ sym is

  pub height_turned : AnswersHeight h (Refused n)
  height_turned = record { answer = rw same (sym (answered.height_refused h turned)); sixteen = λ ok. absurd (turned ok) }

  pub plane_turned : AnswersPlane h (plane_answer n no_ground)
  plane_turned = record { answer = rw same (sym (answered.plane_refused_lem h turned)); sixteen = λ ok. absurd (turned ok) }
