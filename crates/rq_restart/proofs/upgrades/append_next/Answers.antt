use Rattle.std.proofs.Common.{◌≡◌, ◌++◌, ◌-◌, ℕ, List, length, take, drop, ap, ◌∙◌, arith}
use Rattle.std.proofs.lemmas.List.{take_all, length-drop}
use Rattle.sha2.specs.Sha256.{sha256}
use Rattle.rq_restart.proofs.Upgradings.{framed_next}
use Rattle.rq_restart.proofs.upgrades.append_next.Goals as goal

pub returns-clause-bytes : goal.returns-clause-bytes
returns-clause-bytes c =
    let old : List ℕ = c.args.out.now.items in
    let two : List ℕ = c.extend_from_slice-2.new.self.items in
    let held : List ℕ = c.deref.result.now in
    let from : ℕ = c.len-from.result - 32 in
    let place : from ≡ length old - 32 = omega (arith, c.len-from.ensures) in
    let message : take (length held - from) (drop from held) ≡ drop (length old - 32) two =
    take_all (length held - from) (drop from held) (omega (arith, length-drop from held))
    ∙ (λ i. drop (place i) (c.deref.ensures.value i)) in
    framed_next old c.args.body.now c.extend_from_slice.new.self.items two c.extend_from_slice-3.new.self.items
    c.requires.after
    (c.in_ok-extend_from_slice.ensures.items ∙ ap (λ (z : List ℕ). old ++ z) c.to_be_bytes-len.ensures)
    c.in_ok-extend_from_slice-2.ensures.items
    (c.in_ok-extend_from_slice-3.ensures.items
    ∙ ap (λ (z : List ℕ). two ++ z) (c.digest-digest.ensures ∙ ap sha256 message))
