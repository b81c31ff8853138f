-- The contracts of C's calls, as the code states them, are the promises of the calls that they are named after, of what was handed over, in its order. A
-- height's kind and bits are those of an answer that follows document 01's sentences, and read back they say what that answer says.
use Rattle.selection.specs.Selected.{AnswersSelect, handed as surveying}
use Rattle.selection.specs.declared.Selected.{Selected}
use Rattle.mesh.specs.Meshed.{Meshes, handed as drawing}
use Rattle.mesh.specs.declared.Meshed.{Meshed}
use Rattle.strip.specs.Stripped.{Strips}
use Rattle.strip.specs.declared.Stripped.{Stripped}
use Rattle.aim.specs.Aimed.{AnswersPlane, handed as asking}
use Rattle.aim.specs.declared.PlaneAnswer.{PlaneAnswer}
use Rattle.head.specs.Crossing.{FollowsCrossed}
use Rattle.head.specs.declared.Crossed.{Crossed}
use Rattle.head.proofs.Crossing.{follows_crossed}
use Rattle.head.proofs.mosskirtle_select.Reads as select
use Rattle.head.proofs.mosskirtle_triangles.Reads as triangles
use Rattle.head.proofs.mosskirtle_strip.Reads as strip
use Rattle.head.proofs.mosskirtle_height.Reads as height
use Rattle.head.proofs.mosskirtle_plane.Reads as plane

pub select_promised : (k : _) (a : _) (r : Selected) (o : _) → select.Learnt k a r o →
    AnswersSelect (surveying a.0.now a.1.0 a.1.1.0 a.1.1.1.0.now a.1.1.1.1.0.now) r o.1.1.1.0.now o.1.1.1.1.0.now
select_promised k a r o promise = promise

pub triangles_promised : (k : _) (a : _) (r : Meshed) (o : _) → triangles.Learnt k a r o →
    Meshes (drawing a.0.now a.1.0 a.1.1.0.now) r o.1.1.0.now
triangles_promised k a r o promise = promise

pub strip_promised : (k : _) (a : _) (r : Stripped) (o : _) → strip.Learnt k a r o →
    Strips (drawing a.0.now a.1.0 a.1.1.0.now) r o.1.1.0.now
strip_promised k a r o promise = promise

pub plane_promised : (k : _) (a : _) (r : PlaneAnswer) (o : _) → plane.Learnt k a r o →
    AnswersPlane (asking a.0.now a.1.0.now a.1.1.0 a.1.1.1.0 a.1.1.1.1.0) r
plane_promised k a r o promise = promise

pub height_promised : (k : _) (a : _) (r : Crossed) (o : _) → height.Learnt k a r o →
    FollowsCrossed (asking a.0.now a.1.0.now a.1.1.0 a.1.1.1.0 a.1.1.1.1.0) r
height_promised k a r o promise = (follows_crossed promise.sixteen).0 promise.answer
