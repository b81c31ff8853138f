-- Whatever calls were made, those to come answer as the contract says.
use Rattle.std.proofs.Common.{◌≤◌, IfOk}
use Rattle.std.specs.Fn.{AlwaysReturns}
use Rattle.meshprint.proofs.tried.Given as goal

abbrev pub invariant-loop : goal.invariant-loop
invariant-loop g l =
    goal.F-IsAlwaysCallable g l.call
    × AlwaysReturns g.F.FnMut (λ _ moved. IfOk moved (λ n. n ≤ l.most)) l.call
