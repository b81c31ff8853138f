-- `selection::sweep::Sweep::mark_of` meets its contract: what is read at the places of the point and of its ends are their heights, and a void never
-- exceeds the limit.
use Rattle.std.proofs.Common.{◌≡◌, ℕ, ◌+◌, ◌-◌, ◌<◌, ◌≤◌, Bool, true, false, ltb, List, length, get_or, ℤ, pos, sym, refl, ap, ◌∙◌, arith, w16, SFits, to_z, of_z, rules}
use Rattle.grid.specs.Grid.{Inside, samples, place, is_void}
use Rattle.grid.specs.Points.{ends}
use Rattle.grid.specs.declared.Grid.{Grid}
use Rattle.grid.specs.declared.points.Point.{Point}
use Rattle.grid.proofs.OnGrid.{room}
use Rattle.grid.proofs.Coarser.{ends_coarser}
use Rattle.survey.specs.Filled.{sample}
use Rattle.survey.proofs.Reading.{read}
use Rattle.survey.proofs.Rule.{length_filled}
use Rattle.selection.specs.Error.{doubled_error, exceeding}
use Rattle.selection.specs.Marks.{mark_by}
use Rattle.grid.specs.Inner.{Spread}
use Rattle.selection.specs.Inner.{Ready}
use Rattle.grid.proofs.Reach.{between}
use Rattle.selection.proofs.Within.{void_within, exceeding_filled}
use Rattle.selection.proofs.sweep.Sweep.mark_of.Goals as goal

-- what the code reads at a place
abbrev reading : List ℤ → ℕ → ℤ
reading l i = to_z w16 (of_z w16 (get_or l i (pos 0)))

-- i is p's place
module _ {g : Grid} {limit : ℕ} {survey heights : List ℤ} {p : Point} {d i : ℕ} (ready : Ready g limit survey heights) (spread : Spread g.m p d)
    (is : i ≡ place g.m p) where
  long : length heights ≡ samples g.m
  long = rw ready.filled (length_filled g.m survey)

  inside : Inside g.m (ends g.m p).first × Inside g.m (ends g.m p).second
  inside = let u = ends_coarser g.m p spread.inside spread.inner in (u.0.inside, u.1.inside)

  first_is : i - d ≡ place g.m (ends g.m p).first
  first_is = omega (arith, (between spread).before)

  second_is : i + d ≡ place g.m (ends g.m p).second
  second_is = omega (arith, (between spread).behind)

  rooms : (i < length survey) × (d ≤ i) × (i + d < length heights)
  rooms = (room survey ready.long spread.inside is, omega (arith, (between spread).before), room heights long inside.1 second_is)

  void_read : SFits w16 (get_or survey i (pos 0)) → is_void (reading survey i) ≡ is_void (sample g.m survey p)
  void_read f = ap is_void (read survey ready.long spread.inside is f)

  error_read : (limit : ℕ) → SFits w16 (get_or heights i (pos 0)) → SFits w16 (get_or heights (i - d) (pos 0)) →
      SFits w16 (get_or heights (i + d) (pos 0)) → is_void (sample g.m survey p) ≡ false →
      ltb limit (doubled_error (reading heights i) (reading heights (i - d)) (reading heights (i + d))) ≡ exceeding g.m survey limit p
  error_read limit fh fa fb n =
      let h = read heights long spread.inside is fh in
      let a = read heights long inside.0 first_is fa in
      let b = read heights long inside.1 second_is fb in
      (λ j. ltb limit (doubled_error (h j) (a j) (b j)))
      ∙ exceeding_filled g.m survey limit p ready.filled n

  -- the mark that the contract asks for, of a void and of a surveyed point. What was told of a void is written out and comes first: of another
  -- list the check then names the two.
  void_mark : {t k kept : Bool} → t ≡ is_void (to_z w16 (of_z w16 (get_or survey i (pos 0)))) → SFits w16 (get_or survey i (pos 0)) → t ≡ true → kept ≡ k →
      mark_by true false k ≡ mark_by (is_void (sample g.m survey p)) (exceeding g.m survey limit p) kept
  void_mark b f t k =
      let v = sym (void_read f) ∙ sym b ∙ t in
      let n = void_within g.m survey limit p v in
      sym (λ j. mark_by (v j) (n j) (k j))

  surveyed_mark : {t e o k kept : Bool} → SFits w16 (get_or survey i (pos 0)) → SFits w16 (get_or heights i (pos 0)) →
      SFits w16 (get_or heights (i - d) (pos 0)) → SFits w16 (get_or heights (i + d) (pos 0)) →
      t ≡ is_void (reading survey i) → t ≡ false →
      e ≡ ltb limit (doubled_error (reading heights i) (reading heights (i - d)) (reading heights (i + d))) → e ≡ o → kept ≡ k →
      mark_by false o k ≡ mark_by (is_void (sample g.m survey p)) (exceeding g.m survey limit p) kept
  surveyed_mark f fh fa fb b t x o k =
      let n = sym (void_read f) ∙ sym b ∙ t in
      let over = sym (error_read limit fh fa fb n) ∙ sym x ∙ o in
      sym (λ j. mark_by (n j) (over j) (k j))

pub offset_bounds-self-at : goal.offset_bounds-self-at
offset_bounds-self-at c = omega (arith, rooms c.args.self.now.ready c.requires c.place-at.ensures)

pub bounds-self-at : goal.bounds-self-at
bounds-self-at c = omega (arith, rooms c.args.self.now.ready c.requires c.place-at.ensures)

pub offset_bounds-heights-at : goal.offset_bounds-heights-at
offset_bounds-heights-at c = omega (arith, rooms c.args.self.now.ready c.requires c.place-at.ensures)

pub bounds-heights-at : goal.bounds-heights-at
bounds-heights-at c = omega (arith, rooms c.args.self.now.ready c.requires c.place-at.ensures)

pub overflow_sub-at : goal.overflow_sub-at
overflow_sub-at c = omega (arith, rooms c.args.self.now.ready c.requires c.place-at.ensures)

pub offset_bounds-heights-at-else-is_void : goal.offset_bounds-heights-at-else-is_void
offset_bounds-heights-at-else-is_void c = omega (arith, rooms c.args.self.now.ready c.requires c.place-at.ensures)

pub bounds-heights-at-else-is_void : goal.bounds-heights-at-else-is_void
bounds-heights-at-else-is_void c = omega (arith, rooms c.args.self.now.ready c.requires c.place-at.ensures)

pub overflow_add-at : goal.overflow_add-at
overflow_add-at c = omega (arith, rooms c.args.self.now.ready c.requires c.place-at.ensures)

pub offset_bounds-heights-at-else-is_void-2 : goal.offset_bounds-heights-at-else-is_void-2
offset_bounds-heights-at-else-is_void-2 c = omega (arith, rooms c.args.self.now.ready c.requires c.place-at.ensures)

pub bounds-heights-at-else-is_void-2 : goal.bounds-heights-at-else-is_void-2
bounds-heights-at-else-is_void-2 c = omega (arith, rooms c.args.self.now.ready c.requires c.place-at.ensures)

pub returns-then-kept : goal.returns-then-kept
returns-then-kept c =
    void_mark c.args.self.now.ready c.requires c.place-at.ensures c.is_void.ensures (search rules) c.if-is_void.true c.if-kept.true

pub returns-else-kept : goal.returns-else-kept
returns-else-kept c =
    void_mark c.args.self.now.ready c.requires c.place-at.ensures c.is_void.ensures (search rules) c.if-is_void.true c.if-kept.false

pub returns-then-exceeds : goal.returns-then-exceeds
returns-then-exceeds c =
    surveyed_mark c.args.self.now.ready c.requires c.place-at.ensures (search rules) (search rules)
    (search rules) (search rules) c.is_void.ensures c.if-is_void.false
    c.exceeds.ensures c.if-exceeds.true refl

pub returns-then-kept-2 : goal.returns-then-kept-2
returns-then-kept-2 c =
    surveyed_mark c.args.self.now.ready c.requires c.place-at.ensures (search rules) (search rules)
    (search rules) (search rules) c.is_void.ensures c.if-is_void.false
    c.exceeds.ensures c.if-exceeds.false c.if-kept-2.true

pub returns-else-kept-2 : goal.returns-else-kept-2
returns-else-kept-2 c =
    surveyed_mark c.args.self.now.ready c.requires c.place-at.ensures (search rules) (search rules)
    (search rules) (search rules) c.is_void.ensures c.if-is_void.false
    c.exceeds.ensures c.if-exceeds.false c.if-kept-2.false
