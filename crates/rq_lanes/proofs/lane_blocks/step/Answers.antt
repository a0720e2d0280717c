use Rattle.std.proofs.Common.{◌≡◌, ◌+◌, ◌*◌, ◌/◌, ◌%◌, ◌∙◌, ap, arith, refl}
use Rattle.sha2.specs.Sha256.{window_word}
use Rattle.sha2.proofs.Schedule256.{rounds_window, window_word_place}
use Rattle.rq_lanes.specs.Messages.{lane, window}
use Rattle.rq_lanes.proofs.lane_blocks.step.Goals as goal

pub returns : goal.returns
returns g c = λ j low b h held.
    let t = c.args.t in
    let at : 16 * (t / 16) + t % 16 ≡ t = omega arith in
    let word = c.next_word-word.ensures in
    let w = window j c.args.w.now in
    rounds_window b h w (lane j c.args.v) t _ _ _ _ c.requires.low c.requires.high held.0 held.1
    (word.value j low ∙ window_word_place w (t / 16) (t % 16) ∙ ap (window_word w) at) (word.window j low) refl
    (c.round.ensures j low)
