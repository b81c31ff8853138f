-- `selection::marks::count` meets its contract. The invariant: what was counted and what the rest counts is the whole count.
use Rattle.std.proofs.Common.{◌≡◌}
use Rattle.std.specs.Slice.Iter.{chunks_rest, chunks_size}
use Rattle.selection.specs.Inner.{added, counted, byteful}
use Rattle.selection.proofs.marks.count.Given as goal

abbrev pub invariant-loop-few : goal.invariant-loop-few
invariant-loop-few l = (added l.sum (counted (chunks_rest l.few-iterator)) ≡ counted l.marks) × (chunks_size l.few-iterator ≡ byteful)
