-- The parts of demand 3. What selection wrote is closed, so no leg's midpoint is kept without the cut (`Restricted`), and the triangles read from the
-- list are those of the mesh (`AsRead`): so what holds of the mesh holds of them.
use mathlib.Core.Path.{◌≡◌, sym, ap, ◌∙◌, subst}
use mathlib.Core.Bool.{Bool}
use mathlib.Core.List.{List}
use Prim.Native.Nat.{ℕ, suc, ◌<◌}
use native.Mathlib.Decide.{dec_le}
use native.Mathlib.Nat.{lt_trans}
use native.Mathlib.Omega.{arith}
use lib.ListN.{length}
use lib.IntN.{ℤ}
use Rattle.grid.specs.Grid.{Inside, Height, at}
use Rattle.grid.specs.Refusal.{accepted}
use Rattle.grid.specs.declared.points.Point.{Point}
use Rattle.survey.specs.Filled.{sample}
use Rattle.survey.specs.Rule.{Sixteen}
use Rattle.survey.proofs.Rule.{fills_only, filled_height}
use Rattle.selection.specs.Selected.{Handed as Surveying, Selects}
use Rattle.selection.specs.declared.Selected.{Selected}
use Rattle.selection.proofs.Accepted.{Accepted, accepted_handed, turned_only}
use Rattle.selection.proofs.Rule.{turned_down_lem, selection}
use Rattle.mesh.specs.Triangles.{Three, three, mesh}
use Rattle.mesh.specs.Closed.{kept_by}
use Rattle.mesh.specs.Meshed.{handed as drawing}
use Rattle.mesh.specs.Rule.{three_at}
use Rattle.mesh.specs.declared.Meshed.{Meshed}
use Rattle.mesh.proofs.Every.{in_at}
use Rattle.mesh.proofs.Once.{Sides, sides}
use Rattle.mesh.proofs.Pairs.{Pairs, nth, nth_in, nth_pairs}
use Rattle.mesh.proofs.Rule.{AsRead, as_read, told}
use Rattle.mesh.proofs.Rule as mesh_rule
use Rattle.aim.specs.Aimed.{Handed, handed, ended, refusal, Said, said, height_at, plane_at, ground_in}
use Rattle.aim.specs.Geometry.{OfSquare, Contains}
use Rattle.aim.specs.declared.HeightAnswer.{HeightAnswer}
use Rattle.aim.specs.declared.PlaneAnswer.{PlaneAnswer}
use Rattle.aim.proofs.Answered.{height_taken, plane_taken}
use Rattle.aim.proofs.Grounds.{weighs}
use Rattle.aim.proofs.Selected.{selected, height_selected, plane_selected}
use Rattle.aim.proofs.Weights.{contained}
use Rattle.surface.specs.OneMesh.{Restricted}
use Rattle.surface.specs.Surface.{Encloses, Gives, Covered, Called, SurfaceAt, OneSurface}
use Rattle.surface.proofs.Restricted.{restricted}
use Rattle.surface.proofs.Agreement.{agrees, end_in}
use Rattle.surface.proofs.Given.{gives}
use Rattle.surface.proofs.Apart.{Apart, apart}
use Rattle.surface.proofs.Parted.{parted}
use Rattle.surface.proofs.Areas.{areas}

module _ {s : Surveying} {a : Selected} {marks : List ℕ} {heights : List ℤ} {places places' : List ℕ} {r : Meshed}
    (c : Called s a marks heights places r places') where
  selects : Selects s a marks heights
  selects = c.selects.selects

  sixteen : Sixteen s.survey
  sixteen = c.selects.sixteen c.accepts

  abbrev kept : Point → Bool
  kept = kept_by s.m marks

  abbrev ts : List Three
  ts = mesh s.m kept

  meshed : r.refusal ≡ accepted
  meshed = (mesh_rule.selected selects c.accepts c.meshes).1 (omega (arith, c.room))

  reading : AsRead (drawing marks s.m places) r places'
  reading = as_read c.meshes meshed

  legs : Restricted s.m kept
  legs = restricted (selection selects c.accepts).least.closed

  taken : Accepted s
  taken = accepted_handed s (sym (turned_only s (turned_down_lem selects)) ∙ c.accepts)

  -- every height written is a height
  known : (p : Point) → Inside s.m p → Height (sample s.m heights p)
  known p i =
      let t = taken in
      let is = fills_only s.m s.survey t.corners heights (selection selects c.accepts).fills in
      rw is (filled_height s.m s.survey t.corners t.lengths.survey sixteen p i)

  module _ (x y : ℕ) (inside : OfSquare s.m (at x y)) where
    abbrev q : Point
    q = at x y

    abbrev asked : Handed
    asked = handed marks heights s.m x y

    ok : refusal asked ≡ accepted
    ok = selected sixteen selects c.accepts x y inside.east inside.north

    level : (h : HeightAnswer) → said h ≡ height_at asked → (p : PlaneAnswer) → p ≡ plane_at asked → p.ground.height ≡ (said h).height
    unfolding ground_in
    level h e p e' =
        ap (λ (p : PlaneAnswer). p.ground.height) (e' ∙ plane_taken asked ok) ∙ sym (ap (λ (x : Said). x.height) (e ∙ height_taken asked ok))

    -- the triangle in which the walk ends is in the list
    covered : Covered s.m places' r.triangles q
    unfolding ended
    covered =
        let w = in_at ts (three (at 0 0) (at 0 0) (at 0 0)) (end_in s.m kept q) in
        record {
          number = w.0;
          written = rw reading.many w.1;
          contains = subst (λ (t : Three). Contains t q) (w.2 ∙ sym (reading.read w.0 w.1)) (contained (weighs asked inside));
        }

    -- triangle i of the list
    module _ (i : ℕ) (l : i < r.triangles) where
      below : i < length ts
      below = rw reading.many at l

      is : three_at s.m places' i ≡ nth ts i
      is = reading.read i below

      agreed : Contains (three_at s.m places' i) q → (h : HeightAnswer) → said h ≡ height_at asked →
          Gives asked (three_at s.m places' i) (said h).origin (said h).height
      agreed inner h e = rw is (gives asked inside ok taken.small known (agrees legs inside (nth_in ts i below) (rw is at inner)) h e)

    once : (i j : ℕ) → i < r.triangles → j < r.triangles → Encloses (three_at s.m places' i) q → Contains (three_at s.m places' j) q → i ≡ j
    once i j l k e d = by (dec_le (suc i) j) (dec_le (suc j) i)
      where
        pairs : Pairs (Apart q) ts
        pairs = apart q s.m kept

        by : Dec (i < j) → Dec (j < i) → i ≡ j
        by (yes o) d' = absurd ((nth_pairs (Apart q) ts pairs i j o (below j k)).first (rw (is i l) at e) (rw (is j k) at d))
        by (no o) (yes o') = absurd ((nth_pairs (Apart q) ts pairs j i o' (below i l)).second (rw (is i l) at e) (rw (is j k) at d))
        by (no o) (no o') = omega arith

    surface_at : SurfaceAt asked places' r.triangles
    surface_at = record {
      height_accepts = height_selected sixteen selects c.accepts x y inside.east inside.north;
      plane_accepts = plane_selected sixteen selects c.accepts x y inside.east inside.north;
      level = level;
      covered = covered;
      agrees = λ h e i l inner. agreed i l inner h e;
      once = once;
    }

  pub parts : OneSurface s.m marks heights r places'
  parts = record {
    meshed = meshed;
    long = rw reading.many reading.long;
    proper = (told c.meshes meshed).proper;
    everywhere = λ x y e n. surface_at x y (record { east = e; north = n });
    areas = rw reading.many (areas s.m kept (λ i. three_at s.m places' i) reading.read);
    parted = λ i j l k.
        let below : j < length ts = rw reading.many at k in
        rw (reading.read i (lt_trans l below), reading.read j below) (parted (nth_pairs Sides ts (sides s.m kept) i j l below));
  }
