-- `listing::Text::put` meets its contract: the bytes stand behind what was there.
use Rattle.std.proofs.Common.{◌≡◌, List, ℕ, ◌+◌, ◌-◌, ◌≤◌, length, take, drop, drop-drop, append_assoc, sym, ap, ◌∙◌, refl, arith}
use lib.Seq.{sets, sets-eq, length-sets}
use borrow.Rule.Slice.PartMut.{put_mid}
use Rattle.listing.proofs.Text.put.Goals as goal

-- a part of the buffer replaced is the bytes written one by one
placed : (at k : ℕ) (out part bytes : List ℕ) → part ≡ bytes → k ≡ length bytes → at + length bytes ≤ length out →
    put_mid at k out part ≡ sets out at bytes
placed at k out part bytes e l room =
    rw (e, l, drop-drop) (sym (append_assoc (take at out) bytes (drop (at + length bytes) out)) ∙ sym (sets-eq bytes out at room))

pub returns : goal.returns
returns c =
    let t = c.args.self.now in
    let bytes = c.args.bytes.now in
    let k : ℕ = t.at + length bytes - t.at in
    let many : k ≡ length bytes = omega arith in
    let written = placed t.at k t.out.now c.copy_from_slice.new.self bytes c.copy_from_slice.ensures.after many c.requires in
    record {
      same_buffer = refl;
      put = record { behind = refl; holds = written };
      short = omega arith;
      long = ap length written ∙ length-sets t.out.now t.at bytes;
    }
