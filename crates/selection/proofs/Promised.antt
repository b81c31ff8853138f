-- The contract of select, as the code states it, ties the answer and both buffers at exit to what was handed over, in its order: the survey, the size,
-- the tolerance, and the marks and the heights as they were.
use Rattle.std.proofs.Common.{◌≡◌, ℕ, List, ℤ, refl}
use Rattle.selection.specs.Selected.{handed, AnswersSelect}
use Rattle.selection.specs.declared.Selected.{Selected}
use Rattle.selection.proofs.select.Reads as reads

-- each part in its place
pub in_place : (survey : List ℤ) (m tolerance : ℕ) (marks : List ℕ) (heights : List ℤ) →
    let h = handed survey m tolerance marks heights in
    (h.survey ≡ survey) × (h.m ≡ m) × (h.tolerance ≡ tolerance) × (h.marks ≡ marks) × (h.heights ≡ heights)
in_place survey m tolerance marks heights = (refl, refl, refl, refl, refl)

pub promised : (k : _) (a : _) (r : Selected) (o : _) → reads.Learnt k a r o →
    AnswersSelect (handed a.0.now a.1.0 a.1.1.0 a.1.1.1.0.now a.1.1.1.1.0.now) r o.1.1.1.0.now o.1.1.1.1.0.now
promised k a r o promise = promise
