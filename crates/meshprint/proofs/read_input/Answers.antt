-- Each call reads no more than the part has, and leaves its length.
use Rattle.std.proofs.Common.{rules, ◌≡◌, refl, length, slice_range}
use Rattle.std.proofs.lemmas.Fn.{answers_by}
use Rattle.meshprint.proofs.read_input.Goals as goal

pub tried-requires-clause-at_most : goal.tried-requires-clause-at_most
tried-requires-clause-at_most g c =
    let part = slice_range c.loop-done.input c.loop-done.done (length c.loop-done.input) in
    answers_by _ _ (λ f. length f.1.now ≡ length part) (λ f a r f' k i. search rules) _ refl
