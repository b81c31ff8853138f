-- No second answer, of the contracts as the code states them: any two outcomes that meet the contract of a public call, as the checker has it, for the same arguments are the
-- same, the answer and every lent buffer at exit.
use mathlib.Core.Path.{◌≡◌, sym, ◌∙◌}
use mathlib.Core.Bool.{Bool}
use Prim.Native.Nat.{ℕ}
use lib.IntN.{ℤ}
use Rattle.std.specs.Prelude.{⊤, Result, List}
use Rattle.grid.specs.declared.Grid.{Grid}
use Rattle.grid.proofs.Alike.{same_grid}
use Rattle.grid.specs.declared.points.Point.{Point}
use Rattle.grid.specs.declared.sizes.Size.{Size}
use Rattle.grid.specs.declared.refusals.Refusal.{Refusal}
use Rattle.grid.proofs.sizes.size_of.Reads as size_of
use Rattle.selection.specs.declared.Selected.{Selected}
use Rattle.selection.proofs.select.Reads as select
use Rattle.selection.proofs.SelectedFromRefusal.from.Reads as selected
use Rattle.mesh.specs.declared.Meshed.{Meshed}
use Rattle.mesh.proofs.triangles.Reads as triangles
use Rattle.mesh.proofs.MeshedFromRefusal.from.Reads as meshed
use Rattle.strip.specs.declared.Stripped.{Stripped}
use Rattle.strip.proofs.strip.Reads as strip
use Rattle.strip.proofs.StrippedFromRefusal.from.Reads as stripped
use Rattle.aim.specs.declared.HeightAnswer.{HeightAnswer}
use Rattle.aim.specs.declared.PlaneAnswer.{PlaneAnswer}
use Rattle.aim.proofs.height.Reads as height
use Rattle.aim.proofs.plane.Reads as plane
use Rattle.head.specs.declared.Crossed.{Crossed}
use Rattle.head.proofs.mosskirtle_select.Reads as c_select
use Rattle.head.proofs.mosskirtle_triangles.Reads as c_triangles
use Rattle.head.proofs.mosskirtle_strip.Reads as c_strip
use Rattle.head.proofs.mosskirtle_height.Reads as c_height
use Rattle.head.proofs.mosskirtle_plane.Reads as c_plane
use Rattle.frame.specs.declared.Frame.{Frame}
use Rattle.frame.proofs.read.Reads as read
use Rattle.frame.proofs.heights.Reads as heights
use Rattle.listing.proofs.text_of.Reads as text_of
use Rattle.grid.proofs.sizes.grid_of.Reads as grid_of
use Rattle.grid.proofs.Grid.place.Reads as place
use Rattle.grid.proofs.Grid.point.Reads as point
use Rattle.grid.proofs.Grid.midpoint.Reads as midpoint
use Rattle.grid.proofs.Grid.in_quarters.Reads as in_quarters
use Rattle.grid.proofs.Grid.corners.Reads as corners
use Rattle.grid.proofs.Grid.is_void.Reads as is_void
use Rattle.grid.proofs.Grid.raised.Reads as raised
use Rattle.grid.proofs.Grid.lowered.Reads as lowered
use Rattle.grid.proofs.marks.Marks.at.Reads as mark_at
use Rattle.grid.proofs.marks.good.Reads as good
use Rattle.grid.proofs.refusals.U32FromRefusal.from.Reads as number
use Rattle.grid.proofs.marks.kept.Reads as kept
use Rattle.grid.proofs.marks.keeps.Reads as keeps
use Rattle.grid.proofs.marks.filled.Reads as filled
use Rattle.grid.proofs.points.reach_at.Reads as reach_at
use Rattle.grid.proofs.points.reach_of.Reads as reach_of
use Rattle.mesh.proofs.good.corners_good.Reads as corners_good
use Rattle.mesh.proofs.cut.is_cut.Reads as is_cut
use Rattle.survey.proofs.fill.Reads as fill
use Rattle.settled.specs.Unique.{SameSelection, SameTriangles, SameStrip, SameSurvey, SameText}
use Rattle.settled.proofs.Unique.{no_second}

pub select_once : (k : _) (a : _) (r r' : Selected) (o o' : _) → select.Learnt k a r o → select.Learnt k a r' o' →
    SameSelection r r' o.1.1.1.0.now o'.1.1.1.0.now o.1.1.1.1.0.now o'.1.1.1.1.0.now
select_once k a r r' o o' p q = no_second.select _ r r' _ _ _ _ p.selects q.selects

pub triangles_once : (k : _) (a : _) (r r' : Meshed) (o o' : _) → triangles.Learnt k a r o → triangles.Learnt k a r' o' →
    SameTriangles r r' o.1.1.0.now o'.1.1.0.now
triangles_once k a r r' o o' p q = no_second.triangles _ r r' _ _ p q

pub strip_once : (k : _) (a : _) (r r' : Stripped) (o o' : _) → strip.Learnt k a r o → strip.Learnt k a r' o' →
    SameStrip r r' o.1.1.0.now o'.1.1.0.now
strip_once k a r r' o o' p q = no_second.strip _ r r' _ _ p q

pub height_once : (k : _) (a : _) (r r' : HeightAnswer) (o o' : _) → height.Learnt k a r o → height.Learnt k a r' o' → r ≡ r'
height_once k a r r' o o' p q = no_second.height _ r r' p.answer q.answer

pub plane_once : (k : _) (a : _) (r r' : PlaneAnswer) (o o' : _) → plane.Learnt k a r o → plane.Learnt k a r' o' → r ≡ r'
plane_once k a r r' o o' p q = no_second.plane _ r r' p.answer q.answer

pub read_once : (k : _) (a : _) (r r' : Result Frame Refusal) (o o' : _) → read.Learnt k a r o → read.Learnt k a r' o' → r ≡ r'
read_once k a r r' o o' p q = no_second.read _ r r' p q

pub heights_once : (k : _) (a : _) (r r' : Result ⊤ Refusal) (o o' : _) → heights.Learnt k a r o → heights.Learnt k a r' o' →
    SameSurvey r r' o.1.0.now o'.1.0.now
heights_once k a r r' o o' p q = no_second.heights _ r r' _ _ p q

pub text_of_once : (k : _) (a : _) (r r' : ℕ) (o o' : _) → text_of.Learnt k a r o → text_of.Learnt k a r' o' →
    SameText r r' o.1.0.now o'.1.0.now
text_of_once k a r r' o o' p q = no_second.text _ _ r r' _ _ p q

pub size_of_once : (k : _) (a : _) (r r' : Result Size Refusal) (o o' : _) → size_of.Learnt k a r o → size_of.Learnt k a r' o' → r ≡ r'
size_of_once k a r r' o o' p q = no_second.size a.0 r r' p q

-- C's calls
pub c_select_once : (k : _) (a : _) (r r' : Selected) (o o' : _) → c_select.Learnt k a r o → c_select.Learnt k a r' o' →
    SameSelection r r' o.1.1.1.0.now o'.1.1.1.0.now o.1.1.1.1.0.now o'.1.1.1.1.0.now
c_select_once k a r r' o o' p q = no_second.select _ r r' _ _ _ _ p.selects q.selects

pub c_triangles_once : (k : _) (a : _) (r r' : Meshed) (o o' : _) → c_triangles.Learnt k a r o → c_triangles.Learnt k a r' o' →
    SameTriangles r r' o.1.1.0.now o'.1.1.0.now
c_triangles_once k a r r' o o' p q = no_second.triangles _ r r' _ _ p q

pub c_strip_once : (k : _) (a : _) (r r' : Stripped) (o o' : _) → c_strip.Learnt k a r o → c_strip.Learnt k a r' o' →
    SameStrip r r' o.1.1.0.now o'.1.1.0.now
c_strip_once k a r r' o o' p q = no_second.strip _ r r' _ _ p q

pub c_height_once : (k : _) (a : _) (r r' : Crossed) (o o' : _) → c_height.Learnt k a r o → c_height.Learnt k a r' o' → r ≡ r'
c_height_once k a r r' o o' p q = no_second.crossing _ r r' p.answer q.answer

pub c_plane_once : (k : _) (a : _) (r r' : PlaneAnswer) (o o' : _) → c_plane.Learnt k a r o → c_plane.Learnt k a r' o' → r ≡ r'
c_plane_once k a r r' o o' p q = no_second.plane _ r r' p.answer q.answer

-- The functions that one crate calls of another: all promise equations, so two results are equal to the same third.
same : {A : Type 0} {x y z : A} → x ≡ z → y ≡ z → x ≡ y
same p q = p ∙ sym q

pub fill_once : (k : _) (a : _) (r r' : _) (o o' : _) → fill.Learnt k a r o → fill.Learnt k a r' o' → o.1.1.0.now ≡ o'.1.1.0.now
fill_once k a r r' o o' p q = same p.is q.is

pub grid_of_once : (k : _) (a : _) (r r' : Grid) (o o' : _) → grid_of.Learnt k a r o → grid_of.Learnt k a r' o' → r ≡ r'
grid_of_once k a r r' o o' p q = same_grid r r' (same p q)

pub place_once : (k : _) (a : _) (r r' : ℕ) (o o' : _) → place.Learnt k a r o → place.Learnt k a r' o' → r ≡ r'
place_once k a r r' o o' p q = same p q

pub point_once : (k : _) (a : _) (r r' : Point) (o o' : _) → point.Learnt k a r o → point.Learnt k a r' o' → r ≡ r'
point_once k a r r' o o' p q = same p q

pub midpoint_once : (k : _) (a : _) (r r' : ℕ) (o o' : _) → midpoint.Learnt k a r o → midpoint.Learnt k a r' o' → r ≡ r'
midpoint_once k a r r' o o' p q = same p q

pub in_quarters_once : (k : _) (a : _) (r r' : ℕ) (o o' : _) → in_quarters.Learnt k a r o → in_quarters.Learnt k a r' o' → r ≡ r'
in_quarters_once k a r r' o o' p q = same p q

pub corners_once : (k : _) (a : _) (r r' : List Point) (o o' : _) → corners.Learnt k a r o → corners.Learnt k a r' o' → r ≡ r'
corners_once k a r r' o o' p q = same p q

pub number_once : (k : _) (a : _) (r r' : ℕ) (o o' : _) → number.Learnt k a r o → number.Learnt k a r' o' → r ≡ r'
number_once k a r r' o o' p q = same p q

pub selected_once : (k : _) (a : _) (r r' : Selected) (o o' : _) → selected.Learnt k a r o → selected.Learnt k a r' o' → r ≡ r'
selected_once k a r r' o o' p q = same p q

pub meshed_once : (k : _) (a : _) (r r' : Meshed) (o o' : _) → meshed.Learnt k a r o → meshed.Learnt k a r' o' → r ≡ r'
meshed_once k a r r' o o' p q = same p q

pub stripped_once : (k : _) (a : _) (r r' : Stripped) (o o' : _) → stripped.Learnt k a r o → stripped.Learnt k a r' o' → r ≡ r'
stripped_once k a r r' o o' p q = same p q

pub mark_at_once : (k : _) (a : _) (r r' : ℕ) (o o' : _) → mark_at.Learnt k a r o → mark_at.Learnt k a r' o' → r ≡ r'
mark_at_once k a r r' o o' p q = same p q

pub is_void_once : (k : _) (a : _) (r r' : Bool) (o o' : _) → is_void.Learnt k a r o → is_void.Learnt k a r' o' → r ≡ r'
is_void_once k a r r' o o' p q = same p q

pub raised_once : (k : _) (a : _) (r r' : ℕ) (o o' : _) → raised.Learnt k a r o → raised.Learnt k a r' o' → r ≡ r'
raised_once k a r r' o o' p q = same p q

pub lowered_once : (k : _) (a : _) (r r' : ℤ) (o o' : _) → lowered.Learnt k a r o → lowered.Learnt k a r' o' → r ≡ r'
lowered_once k a r r' o o' p q = same p q

pub good_once : (k : _) (a : _) (r r' : Bool) (o o' : _) → good.Learnt k a r o → good.Learnt k a r' o' → r ≡ r'
good_once k a r r' o o' p q = same p q

pub kept_once_lem : (k : _) (a : _) (r r' : Bool) (o o' : _) → kept.Learnt k a r o → kept.Learnt k a r' o' → r ≡ r'
kept_once_lem k a r r' o o' p q = same p q

pub keeps_once : (k : _) (a : _) (r r' : Bool) (o o' : _) → keeps.Learnt k a r o → keeps.Learnt k a r' o' → r ≡ r'
keeps_once k a r r' o o' p q = same p q

pub filled_once : (k : _) (a : _) (r r' : Bool) (o o' : _) → filled.Learnt k a r o → filled.Learnt k a r' o' → r ≡ r'
filled_once k a r r' o o' p q = same p q

pub reach_at_once : (k : _) (a : _) (r r' : ℕ) (o o' : _) → reach_at.Learnt k a r o → reach_at.Learnt k a r' o' → r ≡ r'
reach_at_once k a r r' o o' p q = same p q

pub reach_of_once : (k : _) (a : _) (r r' : ℕ) (o o' : _) → reach_of.Learnt k a r o → reach_of.Learnt k a r' o' → r ≡ r'
reach_of_once k a r r' o o' p q = same p q

pub corners_good_once : (k : _) (a : _) (r r' : Bool) (o o' : _) → corners_good.Learnt k a r o → corners_good.Learnt k a r' o' → r ≡ r'
corners_good_once k a r r' o o' p q = same p q

pub is_cut_once : (k : _) (a : _) (r r' : Bool) (o o' : _) → is_cut.Learnt k a r o → is_cut.Learnt k a r' o' → r ≡ r'
is_cut_once k a r r' o o' p q = same p q
