-- Selection as a whole: its refusals, in their order, its answer, and what it writes. Document 01, "Points, ends and
-- dependencies", "Marks", "What a call may turn down". Definitions only.
use Rattle.std.specs.Prelude.{◌≡◌, ℕ, Bool, cond, not, ◌&&◌, List, length, ℤ, ◌==◌, nat_lt}
use Rattle.grid.specs.Grid.{largest, samples, corners, is_void}
use Rattle.grid.specs.Refusal.{accepted, size_above, wrong_length, void_corner, tolerance_above}
use Rattle.survey.specs.Filled.{sample, filled}
use Rattle.survey.specs.Rule.{Sixteen}
use Rattle.selection.specs.Error.{over}
use Rattle.selection.specs.Kept.{some}
use Rattle.selection.specs.Marks.{marks_of, count, marked_own, marked_dependence}
use Rattle.selection.specs.declared.Selected.{Selected}

-- the largest tolerance taken
abbrev pub highest_tolerance : ℕ
highest_tolerance = 65535

-- a grid corner is void
unfoldable pub corner_void : ℕ → List ℤ → Bool
corner_void m survey = some (λ p. is_void (sample m survey p)) (corners m)

-- what selection is handed: the survey, the size, the tolerance, and the two buffers that it writes, as they are before the call
pub record Handed : Type 0 where
  pub survey : List ℤ
  pub m : ℕ
  pub tolerance : ℕ
  pub marks : List ℕ
  pub heights : List ℤ

abbrev pub handed : List ℤ → ℕ → ℕ → List ℕ → List ℤ → Handed
handed survey m tolerance marks heights =
    record { survey = survey; m = m; tolerance = tolerance; marks = marks; heights = heights }

-- each of the three buffers, for they all hold one entry for each sample, is exactly (N+1)² long
abbrev pub right_lengths : Handed → Bool
right_lengths h =
    (length h.survey == samples h.m) && (length h.marks == samples h.m && length h.heights == samples h.m)

-- the first case that holds, in the order 1, 2, 4, 3; or no refusal
unfoldable pub refusal : Handed → ℕ
refusal h =
    cond (nat_lt largest h.m) size_above
    (cond (not (right_lengths h)) wrong_length
    (cond (nat_lt highest_tolerance h.tolerance) tolerance_above
    (cond (corner_void h.m h.survey) void_corner accepted)))

-- the marks of an accepted selection
abbrev pub marks_by : Handed → List ℕ
marks_by h = marks_of h.m h.survey (over h.m h.survey h.tolerance)

-- refused: the number, and counts of 0
abbrev pub turned_down : ℕ → Selected
turned_down n = record { refusal = n; own = 0; dependent = 0; voids = 0 }

-- accepted: the counts of the points marked 1, of those marked 2 or 6, and of the voids; refused: the number, and counts of 0
unfoldable pub answer_of : Handed → Selected
answer_of h =
    cond (refusal h == accepted)
    (record {
      refusal = accepted;
      own = count marked_own (marks_by h);
      dependent = count marked_dependence (marks_by h);
      voids = count is_void h.survey;
    })
    (turned_down (refusal h))

-- accepted: one mark for each sample, and the filled heights; refused: the buffers stay untouched
unfoldable pub marks_after : Handed → List ℕ
marks_after h = cond (refusal h == accepted) (marks_by h) h.marks

unfoldable pub heights_after : Handed → List ℤ
heights_after h = cond (refusal h == accepted) (filled h.m h.survey) h.heights

-- the answer, the marks at exit and the heights at exit
pub record Selects (h : Handed) (r : Selected) (marks' : List ℕ) (heights' : List ℤ) : Type 0 where
  pub answer : r ≡ answer_of h
  pub marks : marks' ≡ marks_after h
  pub heights : heights' ≡ heights_after h

-- the promise of select: the above; and that each sample of an accepted survey is a number of 16 bits
pub record AnswersSelect (h : Handed) (r : Selected) (marks' : List ℕ) (heights' : List ℤ) : Type 0 where
  pub selects : Selects h r marks' heights'
  pub sixteen : r.refusal ≡ accepted → Sixteen h.survey
