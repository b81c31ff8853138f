-- Each call is one of those of which the contract speaks.
use Rattle.std.proofs.Common.{of_calls, [], ◌∷◌}
use Rattle.std.specs.Fn.{Mut, Called, AlwaysReturns}
use Rattle.meshprint.proofs.tried.Goals as goal

module _ {F X R : Type 0} {g : Mut F X R} {P : X → R → Type 0} {f f' : F} {a : X} {r : R} where
  now : AlwaysReturns g P f → Called g f a r f' → P a r
  now h called = (h.at (a ∷ []) r f' called).0

  later : AlwaysReturns g P f → Called g f a r f' → AlwaysReturns g P f'
  later h called = record { at = λ xs. (h.at (a ∷ xs) r f' called).1 }

pub returns-then-not-may_try_again : goal.returns-then-not-may_try_again
returns-then-not-may_try_again g c = now c.loop.invariant.1 c.call-moved.ensures

pub loop-preserved : goal.loop-preserved
loop-preserved g c = (search of_calls, later c.loop.invariant.1 c.call-moved.ensures)

pub returns : goal.returns
returns g c = now c.loop.invariant.1 c.call.ensures
