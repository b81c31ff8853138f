-- Along a run: what the sweep has done before it comes to a column, and how it goes on to the next that it marks. And the two runs of a row
-- of centres.
use Rattle.std.proofs.Common.{◌≡◌, ℕ, suc, ◌+◌, ◌*◌, ◌%◌, ◌^◌, ◌<◌, ◌≤◌, Bool, List, set, ℤ, sym, refl, ap, ◌∙◌, inl, inr, mul_comm, mul-add, arith}
use Rattle.std.proofs.Math.Nat.{mod-eq_of_lt}
use mathlib.Core.List.{Memᴰ}
use Rattle.grid.specs.Grid.{side, at, place, is_void}
use Rattle.grid.specs.Points.{level, units, rank, dependents}
use Rattle.grid.specs.declared.points.Point.{Point}
use Rattle.grid.specs.declared.points.Kind.{Kind}
use Rattle.grid.specs.declared.points.Kind.TheVariants.{Rising, Falling}
use Rattle.grid.specs.Inner.{Sited, CentreKind, next_kind}
use Rattle.grid.proofs.Around.{Way, rise, fall}
use Rattle.grid.proofs.Placed.{Placed, placed, measured, inner, kind_way}
use Rattle.grid.proofs.Rows.{next_east, way_odd, sited, rank_alike}
use Rattle.survey.specs.Filled.{sample}
use Rattle.selection.specs.Error.{exceeding}
use Rattle.selection.specs.Kept.{some}
use Rattle.selection.specs.Marks.{mark_by}
use Rattle.selection.specs.Inner.{Final, kept_at, mark_over, Swept, finer, stride, Ran, swept}
use Rattle.selection.proofs.Final.{final_at, final_set}
use Rattle.selection.proofs.Chain.{dependent_below}
use Rattle.selection.proofs.Judged.{judged}
use Rattle.selection.proofs.Strides.{steps, way_on, run_past, run_begun, run_ended, run_first, run_last}

-- what is done of the run of kind k that begins at p, before column a, and past it; and past the row
abbrev pub in_run : ℕ → Kind → Point → ℕ → Point → Type 0
in_run m k p = Ran m (stride k) (rank m p) (units m p).up (units m p).across

abbrev pub past_run : ℕ → Kind → Point → Point → Type 0
past_run m k p = Ran m (stride k) (rank m p) (units m p).up ((units m p).across + 2) 0

abbrev pub past_row : ℕ → Point → Point → Type 0
past_row m p = Swept m (rank m p) (suc (units m p).up)

-- in the run of kind k that begins at p, at the coordinate east
pub record Along (m s : ℕ) (f : Point → ℕ) (p : Point) (k : Kind) (marks : List ℕ) (east : ℕ) : Type 0 where
  pub column : ℕ
  pub times : east ≡ s * column
  pub alike : column % stride k ≡ (units m p).across
  pub way : Way column (units m p).up k
  pub final : Final m f (in_run m k p column) marks

module _ {m s : ℕ} {p : Point} {k : Kind} (start : Sited m p k s) where
  pub origin : Placed m (level m p.x p.y) (units m p).across (units m p).up p
  origin = placed m p start.inside start.inner

  pub origin_way : Way (units m p).across (units m p).up k
  origin_way = rw start.kinded (kind_way origin)

  pub unit : s ≡ 2 ^ level m p.x p.y
  unit = start.spaced ∙ (measured origin).spaced

  pub begins : {f : Point → ℕ} {marks : List ℕ} → (units m p).across < stride k → Final m f (in_run m k p 0) marks → Along m s f p k marks p.x
  begins l final =
      record {
        column = (units m p).across;
        times = origin.times.east ∙ ap (λ (i : ℕ). i * (units m p).across) (sym unit);
        alike = mod-eq_of_lt l;
        way = origin_way;
        final = final_at final (run_begun origin k (units m p).across);
      }

  module _ {f : Point → ℕ} {marks : List ℕ} {east : ℕ} (now : Along m s f p k marks east) where
    -- beyond the square the run is done
    pub beyond : side m < east → Final m f (past_run m k p) marks
    beyond l =
        let far : side m < 2 ^ level m p.x p.y * now.column = omega (arith, now.times ∙ ap (λ (i : ℕ). i * now.column) unit) in
        final_at now.final (run_ended origin k (units m p).across refl now.column far)

    module _ (l : east ≤ side m) where
      there : Placed m (level m p.x p.y) now.column (units m p).up (at east p.y)
      there =
          record {
            below = origin.below;
            times = record { east = now.times ∙ ap (λ (i : ℕ). i * now.column) unit; north = origin.times.north };
            odd = way_odd now.way;
            inside = record { east = l; north = start.inside.north };
          }

      rank_here : rank m (at east p.y) ≡ rank m p
      rank_here = rank_alike there origin ((steps k).even now.column (units m p).across now.alike) refl

      pub sited_here : Sited m (at east p.y) k s
      sited_here = sited there unit now.way

      dependents_final : Final m f (λ q. Memᴰ q (dependents m (at east p.y))) marks
      dependents_final =
          final_at now.final
          (λ q h i.
          let b = dependent_below m (at east p.y) q there.inside (inner there) i in swept (finer (omega (arith, b.2, rank_here))))

      pub goes_on : {v : ℕ} → v ≡ f (at east p.y) → Along m s f p k (set marks (place m (at east p.y)) v) (east + stride k * s)
      goes_on e =
          record {
            column = now.column + stride k;
            times = omega (arith, now.times, mul-add s now.column (stride k), mul_comm s (stride k));
            alike = (steps k).again now.column ∙ now.alike;
            way = way_on now.way;
            final = final_set now.final (at east p.y) there.inside e (λ o h d. rw rank_here at (run_past there k now.alike o h (rw rank_here d)));
          }

-- and the mark that is written here is the one that is to stand, by whether the dependents' marks keep one of them
pub marked : {m s : ℕ} {p : Point} {k : Kind} (survey : List ℤ) (limit : ℕ) {marks : List ℕ} {east v : ℕ} {t : Bool} →
    (start : Sited m p k s) (now : Along m s (mark_over m survey limit) p k marks east) → east ≤ side m →
    t ≡ some (kept_at m marks) (dependents m (at east p.y)) →
    v ≡ mark_by (is_void (sample m survey (at east p.y))) (exceeding m survey limit (at east p.y)) t →
    Along m s (mark_over m survey limit) p k (set marks (place m (at east p.y)) v) (east + stride k * s)
marked {p = p} survey limit {east = east} start now l d e =
    let q = sited_here start now l in
    goes_on start now l (e ∙ judged survey limit (at east p.y) q.inside q.inner (dependents_final start now l) d)

-- a row that one run marks, of edge points
module _ {m s : ℕ} {p : Point} {k : Kind} (start : Sited m p k s) {f : Point → ℕ} {marks : List ℕ} (first : (units m p).across ≤ 1) where
  pub row_asks : Final m f (Swept m (rank m p) (units m p).up) marks → Final m f (in_run m k p 0) marks
  row_asks final = final_at final (run_first (origin start) k first)

  pub row_gives : stride k ≤ (units m p).across + 2 → Final m f (past_run m k p) marks → Final m f (past_row m p) marks
  row_gives l final = final_at final (λ q h d. run_last k q l d)

-- a centre's column is odd, and its run goes by four
rising_odd : {a b : ℕ} → Way a b Rising → a % 2 ≡ 1
rising_odd (rise oa ob t) = oa

falling_odd : {a b : ℕ} → Way a b Falling → a % 2 ≡ 1
falling_odd (fall oa ob t) = oa

pub centre_odd : {a b : ℕ} {k : Kind} → Way a b k → CentreKind k → a % 2 ≡ 1
centre_odd w (inl e) = rising_odd (rw e at w)
centre_odd w (inr e) = falling_odd (rw e at w)

pub centre_stride : {k : Kind} → CentreKind k → (stride k ≡ 4) × (stride (next_kind k) ≡ 4)
centre_stride (inl e) = (ap stride e, ap (λ (d : Kind). stride (next_kind d)) e)
centre_stride (inr e) = (ap stride e, ap (λ (d : Kind). stride (next_kind d)) e)

-- the two runs of a row of centres that begins at (s, y): what each asks, and what they give
module _ {m s y : ℕ} {k : Kind} (start : Sited m (at s y) k s) (centre : CentreKind k) (first : (units m (at s y)).across ≤ 1) where
  one : (units m (at s y)).across ≡ 1
  one = omega (arith, centre_odd (origin_way start) centre)

  pub first_column : (units m (at s y)).across < stride k
  first_column = rw (centre_stride centre).0 (omega (arith, first))

  three : 3 * s ≡ 2 ^ level m s y * 3
  three = omega (arith, unit start)

  -- where there is no second
  pub first_gives : {f : Point → ℕ} {marks : List ℕ} → side m < 3 * s → Final m f (past_run m k (at s y)) marks → Final m f (past_row m (at s y)) marks
  first_gives l final =
      let begins = final_at (rw one at final) (run_begun (origin start) k 3) in
      let far : side m < 2 ^ level m s y * 3 = omega (arith, three) in
      let ends = final_at begins (run_ended (origin start) k 3 (rw one refl) 3 far) in
      let most : stride k ≤ 5 = rw (centre_stride centre).0 (omega arith) in
      final_at ends (λ p h d. run_last k p most d)

  -- the second run begins at (3s, y)
  module _ (l : 3 * s ≤ side m) where
    second : Placed m (level m s y) 3 (units m (at s y)).up (at (3 * s) y)
    second =
        record {
          below = (origin start).below;
          times = record { east = three; north = (origin start).times.north };
          odd = inl refl;
          inside = record { east = l; north = start.inside.north };
        }

    pub second_sited : Sited m (at (3 * s) y) (next_kind k) s
    second_sited = sited second (unit start) (next_east (rw one at (origin_way start)))

    pub second_column : (units m (at (3 * s) y)).across < stride (next_kind k)
    second_column = rw ((measured second).across, (centre_stride centre).1) (omega arith)

    same_rank : rank m (at (3 * s) y) ≡ rank m (at s y)
    same_rank = rank_alike second (origin start) (rw one refl) refl

    pub second_asks : {f : Point → ℕ} {marks : List ℕ} → Final m f (past_run m k (at s y)) marks → Final m f (in_run m (next_kind k) (at (3 * s) y) 0) marks
    second_asks final =
        rw ((measured second).across, (measured second).up, same_rank, (centre_stride centre).1) (rw (one, (centre_stride centre).0) at final)

    pub second_gives : {f : Point → ℕ} {marks : List ℕ} → Final m f (past_run m (next_kind k) (at (3 * s) y)) marks → Final m f (past_row m (at s y)) marks
    second_gives final =
        let all = rw ((measured second).across, (measured second).up, same_rank) at final in
        let most : stride (next_kind k) ≤ 5 = rw (centre_stride centre).1 (omega arith) in
        final_at all (λ p h d. run_last (next_kind k) p most d)
