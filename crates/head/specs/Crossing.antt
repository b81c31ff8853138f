-- How the answer of a height crosses to C: as kind and bits. The other answers cross as they are, field by field. Document 01, "Height at
-- a point", and "Forms by place in the code". Definitions only.
use Rattle.std.specs.Prelude.{◌≡◌, cond, ℕ, eqb, Float}
use Rattle.std.specs.Float.{binary32}
use Rattle.std.specs.Float.Ieee.{to_bits, of_bits}
use Rattle.grid.specs.Refusal.{accepted}
use Rattle.aim.specs.Quotient.{format, plus_zero}
use Rattle.aim.specs.Aimed.{Origin, nowhere, surveyed, filled, Said, says, said, Handed, refusal, height_at, CornersSixteen}
use Rattle.aim.specs.Rule.{FollowsHeight}
use Rattle.aim.specs.declared.HeightAnswer.{HeightAnswer}
use Rattle.aim.specs.declared.HeightAnswer.TheVariants.{Surveyed, Filled, Refused}
use Rattle.head.specs.declared.Crossed.{Crossed}

abbrev pub crossing : ℕ → ℕ → Crossed
crossing kind bits = record { kind = kind; bits = bits }

-- by what an answer says: kind 0 for none, with the refusal's number; 1 for surveyed and 2 for filled, with the bits of the height
abbrev pub crossed_by : Origin → ℕ → Float → Crossed
crossed_by nowhere refusal height = crossing 0 refusal
crossed_by surveyed refusal height = crossing 1 (to_bits format height)
crossed_by filled refusal height = crossing 2 (to_bits format height)

abbrev pub crossed : Said → Crossed
crossed s = crossed_by s.origin s.refusal s.height

-- the promise of C's height: kind and bits of what the height says; and that the heights of an answer have 16 bits
pub record Crosses (h : Handed) (r : Crossed) : Type 0 where
  pub answer : r ≡ crossed (height_at h)
  pub sixteen : refusal h ≡ accepted → CornersSixteen h

-- what C reads from kind and bits: a height is surveyed only where it says so
abbrev pub read : Crossed → Said
read c =
    cond (eqb c.kind 0) (says c.bits nowhere plus_zero)
    (says accepted (cond (eqb c.kind 1) surveyed filled) (of_bits format c.bits))

-- the same by the answer's case, in numbers
abbrev pub CrossesAs : HeightAnswer → ℕ → ℕ → Type 0
CrossesAs (Refused n) kind bits = (kind ≡ 0) × (bits ≡ n)
CrossesAs (Surveyed x) kind bits = (kind ≡ 1) × (bits ≡ to_bits binary32 x)
CrossesAs (Filled x) kind bits = (kind ≡ 2) × (bits ≡ to_bits binary32 x)

-- what C gets for a height: kind and bits of an answer that follows document 01's sentences, and, read, what that answer says
pub record FollowsCrossed (h : Handed) (r : Crossed) : Type 0 where
  pub answer : HeightAnswer
  pub follows : FollowsHeight h answer
  pub crosses : CrossesAs answer r.kind r.bits
  pub reads : read r ≡ said answer
