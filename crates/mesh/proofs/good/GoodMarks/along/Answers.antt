-- `mesh::good::GoodMarks::along` meets its contract. The invariant: each place of the stride before i was asked.
use mathlib.Core.Path.{sym, ◌∙◌}
use mathlib.Core.Bool.{true≢false}
use Rattle.mesh.proofs.Strides.{gone_first, gone_on_lem, gone_last}
use Rattle.mesh.proofs.good.GoodMarks.along.Goals as goal
use Rattle.mesh.proofs.good.GoodMarks.along.Goals.{else-keeps-via-then-keeps+else-not-keeps, then-keeps-2, else-keeps-2, else-keeps-via-else-keeps}

pub loop-i-init : goal.loop-i-init
loop-i-init c = gone_first

pub loop-i-preserved : goal.loop-i-preserved
loop-i-preserved c =
    let plain = c.args.self.now.plain in
    gone_on_lem c.loop-i.invariant
    (elim c.else-keeps.branch [
      | else-keeps-via-then-keeps+else-not-keeps w ↦
          elim w.if-keeps-2.branch [
            | then-keeps-2 x ↦
                λ k. (
                  sym (plain _) ∙ sym w.keeps-then-keeps.ensures ∙ x.if-keeps-2.true,
                  sym (plain _) ∙ sym x.keeps-then-keeps-2.ensures ∙ sym x.value-is ∙ w.if-not-keeps.false,
                )
            | else-keeps-2 x ↦ λ k. absurd (true≢false (sym w.if-not-keeps.false ∙ x.value-is ∙ x.if-keeps-2.false))
          ]
      | else-keeps-via-else-keeps w ↦ λ k. absurd (true≢false (sym k ∙ sym (plain _) ∙ sym c.keeps.ensures ∙ w.if-keeps.false))
    ])

pub returns : goal.returns
returns c = gone_last c.loop-i.invariant c.loop-i-test.false
