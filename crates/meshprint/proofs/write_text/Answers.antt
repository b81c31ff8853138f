-- Each call writes no more than the part has.
use Rattle.std.proofs.Common.{rules}
use Rattle.std.proofs.lemmas.Fn.{always_returns_same}
use Rattle.meshprint.proofs.write_text.Goals as goal

pub tried-requires-clause-at_most : goal.tried-requires-clause-at_most
tried-requires-clause-at_most g c = always_returns_same _ _ _ (λ a r f' k. search rules)
