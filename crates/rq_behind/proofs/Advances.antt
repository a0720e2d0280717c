-- A mending that goes on, step by step.
use Rattle.std.proofs.Common.{◌≡◌, ℕ, ◌+◌, ◌<◌, ◌≤◌, Bool, true, false, List, [], ◌++◌, length, take, drop, refl, sym}
use Rattle.std.proofs.Common.{ap, subst, ◌∙◌, arith}
use Rattle.std.specs.Prelude.{All, Result, Ok, Err, IfOk}
use Rattle.std.proofs.lemmas.List.{append-nil, length-append, length-drop}
use Rattle.std.proofs.lemmas.List.Elements.{All-append, All-nil}
use Rattle.rq_model.specs.Frames.{IsFrameRun, Rest, before, frames}
use Rattle.rq_front.specs.Chains.{IsHeaded}
use Rattle.rq_behind.specs.Runs.{frame_end}
use Rattle.rq_behind.specs.Mending.{AreProvedBefore, AreTold, MendsOn, IsToMend, IsChanged, IsFrontEnd, IsMended, IsProvedBy, IsTried, Proves, with_changes, written}
use Rattle.rq_behind.specs.MendedFiles.{IsMendedLog}
use Rattle.rq_behind.specs.declared.changes.Change.{Change}
use Rattle.rq_behind.specs.declared.mending.Mending.{Mending}
use Rattle.rq_behind.proofs.Changed.{changed_later, told_before}
use Rattle.rq_behind.proofs.Proved.{all_proved, all_still, are_proved, length_written, written_before}

-- nothing is put back, and the place goes on
pub goes_to : (m n : Mending) → n.bytes.items ≡ m.bytes.items → n.changes.items ≡ m.changes.items → m.at ≤ n.at
    → (m.at ≤ length m.bytes.items → n.at ≤ length m.bytes.items) → MendsOn m n
goes_to m n bytes changes low within = record {
  mended = λ log from h.
      let size : length m.bytes.items ≡ length log = h.changed.size in
      let end = within (omega (arith, h.within, size)) in
      record {
        changed = subst (λ (b : List ℕ). IsChanged log from b n.changes.items n.at) (sym bytes)
            (subst (λ (cs : List Change). IsChanged log from m.bytes.items cs n.at) (sym changes)
            (changed_later log from m.bytes.items m.changes.items m.at n.at low h.changed));
        proved = subst (λ (cs : List Change). AreProvedBefore log n.bytes.items cs n.at) (sym changes)
            (all_still log m.bytes.items n.bytes.items m.changes.items m.at n.at (ap (take m.at) (sym bytes)) (ap length (sym bytes)) low
            h.proved);
        within = omega (arith, end, size);
      };
  size = ap length bytes;
  stays = low;
  within = λ h. let end = within h in omega (arith, end, ap length bytes);
}

-- a mending goes on, and on
pub goes_twice : (m n k : Mending) → MendsOn m n → MendsOn n k → MendsOn m k
goes_twice m n k first second = record {
  mended = λ log from h. second.mended log from (first.mended log from h);
  size = second.size ∙ first.size;
  stays = omega (arith, first.stays, second.stays);
  within = λ h. second.within (first.within h);
}

-- nothing is tried
pub tried_none : (m : Mending) → IsTried m m false
tried_none m = record {
  goes = goes_to m m refl refl (omega arith) (λ h. h);
  on = λ e. absurd cc;
  off = λ e. refl;
}

-- one thing is tried in vain, then another
pub tried_twice : (m n k : Mending) (none found : Bool) → none ≡ false → IsTried m n none → IsTried n k found → IsTried m k found
tried_twice m n k none found vain first second =
    let same = first.off vain in
    record {
      goes = goes_twice m n k first.goes second.goes;
      on = λ e. let on = second.on e in omega (arith, on, same);
      off = λ e. second.off e ∙ same;
    }

pub tried_then : {E : Type 0} (r : Result Bool E) (m n k : Mending) (none : Bool) → none ≡ false → IsTried m n none
    → IfOk r (IsTried n k) → IfOk r (IsTried m k)
tried_then (Ok found) m n k none vain first second = tried_twice m n k none found vain first second
tried_then (Err e) m n k none vain first second = tt

-- bytes are put back that a frame proves
put_mended : (m n : Mending) (frame offset size end : ℕ) → m.at ≤ offset → m.at ≤ frame
    → take m.at m.bytes.items ≡ take m.at n.bytes.items → length m.bytes.items ≡ length n.bytes.items
    → ((log : List ℕ) (from : ℕ) → IsChanged log from m.bytes.items m.changes.items offset
    → IsChanged log from n.bytes.items n.changes.items (offset + size))
    → (more : List Change) × (n.changes.items ≡ m.changes.items ++ more)
    × All (λ c. (c.frame ≡ frame) × (offset ≤ c.offset) × (c.offset < offset + size)) more
    → Proves n.bytes.items frame offset size end → end ≤ length m.bytes.items → n.at ≡ end
    → (log : List ℕ) (from : ℕ) → IsMended log from m → IsMended log from n
put_mended m n frame offset size end low behind same long changed told proves within at log from h =
    let after = changed log from (changed_later log from m.bytes.items m.changes.items m.at offset low h.changed) in
    let past : offset + size ≤ n.at = omega (arith, proves.within, proves.ends, at) in
    let stays : m.at ≤ n.at = omega (arith, proves.ends, at, behind) in
    let old = all_still log m.bytes.items n.bytes.items m.changes.items m.at n.at same long stays h.proved in
    let new = all_proved log n.bytes.items told.0 frame offset size end after.behind proves told.2 in
    let news = subst (AreProvedBefore log n.bytes.items told.0) (sym at) new in
    record {
      changed = changed_later log from n.bytes.items n.changes.items (offset + size) n.at past after;
      proved = subst (λ (cs : List Change). AreProvedBefore log n.bytes.items cs n.at) (sym told.1)
          (All-append (λ c. IsProvedBy log n.bytes.items c.frame c.offset × (frame_end n.bytes.items c.frame ≤ n.at)) m.changes.items told.0
          old news);
      within = omega (arith, at, within, h.changed.size);
    }

goes_behind : (m n : Mending) (frame offset size end : ℕ) (now : List ℕ) → length now ≡ size
    → offset + size ≤ length m.bytes.items → m.at ≤ offset → m.at ≤ frame
    → n.bytes.items ≡ written m.bytes.items offset now
    → ((log : List ℕ) (from : ℕ) → IsChanged log from m.bytes.items m.changes.items offset
    → IsChanged log from n.bytes.items n.changes.items (offset + size))
    → (more : List Change) × (n.changes.items ≡ m.changes.items ++ more)
    × All (λ c. (c.frame ≡ frame) × (offset ≤ c.offset) × (c.offset < offset + size)) more
    → Proves (written m.bytes.items offset now) frame offset size end → end ≤ length m.bytes.items → n.at ≡ end
    → IsTried m n true
goes_behind m n frame offset size end now long inside low behind items changed told proves within at =
    let proved : Proves n.bytes.items frame offset size end =
    subst (λ (b : List ℕ). Proves b frame offset size end) (sym items) proves in
    let same : take m.at m.bytes.items ≡ take m.at n.bytes.items =
    written_before m.bytes.items offset m.at now low (omega (arith, inside)) ∙ ap (take m.at) (sym items) in
    let size_same : length n.bytes.items ≡ length m.bytes.items =
    ap length items ∙ length_written m.bytes.items offset now (omega (arith, inside, long)) in
    let further : m.at < n.at = omega (arith, proves.ends, at, behind) in
    record {
      goes = record {
        mended = put_mended m n frame offset size end low behind same (sym size_same) changed told proved within at;
        size = size_same;
        stays = omega (arith, further);
        within = λ h. omega (arith, at, within, size_same);
      };
      on = λ e. further;
      off = λ e. absurd cc;
    }

-- bytes are put back in bytes that stand as they stood
pub goes_put : (m n : Mending) (frame offset size end : ℕ) (now mid : List ℕ) → length now ≡ size
    → offset + size ≤ length m.bytes.items → m.at ≤ offset → m.at ≤ frame → mid ≡ m.bytes.items
    → n.bytes.items ≡ written mid offset now
    → ((log : List ℕ) (from : ℕ) → IsChanged log from mid m.changes.items offset
    → IsChanged log from n.bytes.items n.changes.items (offset + size))
    → (more : List Change) × (n.changes.items ≡ m.changes.items ++ more)
    × All (λ c. (c.frame ≡ frame) × (offset ≤ c.offset) × (c.offset < offset + size)) more
    → Proves (written m.bytes.items offset now) frame offset size end → end ≤ length m.bytes.items → n.at ≡ end
    → IsTried m n true
goes_put m n frame offset size end now mid long inside low behind kept items changed told proves within at =
    goes_behind m n frame offset size end now long inside low behind
    (items ∙ ap (λ (b : List ℕ). written b offset now) kept)
    (λ log from h. changed log from (subst (λ (b : List ℕ). IsChanged log from b m.changes.items offset) (sym kept) h))
    told proves within at

-- a log that was not changed yet
pub fresh : (m : Mending) → m.changes.items ≡ [] → m.at ≤ length m.bytes.items → IsMended m.bytes.items m.at m
fresh m none within = record {
  changed = record {
    same = ap (with_changes m.bytes.items) (sym none);
    told = λ rest told. subst (λ (cs : List Change). AreTold m.bytes.items m.at (cs ++ rest)) (sym none) told;
    size = refl;
    behind = refl;
  };
  proved = subst (λ (cs : List Change). AreProvedBefore m.bytes.items m.bytes.items cs m.at) (sym none)
      (All-nil (λ c. IsProvedBy m.bytes.items m.bytes.items c.frame c.offset × (frame_end m.bytes.items c.frame ≤ m.at)));
  within = within;
}

-- a run of frames ends at its beginning or behind it
pub end_behind : (b : List ℕ) (from end : ℕ) (bodies : List (List ℕ)) (rest : Rest) → from ≤ length b
    → IsFrameRun b from bodies end rest → from ≤ end
end_behind b from end bodies rest inside run =
    let parts = ap length run.run.whole in
    omega (
      arith,
      inside,
      run.within,
      parts,
      length-drop from b,
      length-drop end b,
      length-append (frames (before from b) bodies) (drop end b),
    )

-- a log that was not changed yet is begun where its front ends
pub begun_at : (m : Mending) (from : ℕ) (rest : Rest) → m.changes.items ≡ [] → 40 ≤ from → from ≤ length m.bytes.items
    → IsFrontEnd m.bytes.items from m.at rest → IsToMend m.bytes.items from m
begun_at m from rest none after inside front = record {
  least = m.at;
  mended = fresh m none front.1.within;
  after = omega (arith, after, end_behind m.bytes.items from m.at front.0 rest inside front.1);
  front = λ headed. (rest, front);
}

-- what is told from the end of the front on
told_from : (log : List ℕ) (least : ℕ) (m : Mending) → IsMended log least m → AreTold log least m.changes.items
told_from log least m h = subst (AreTold log least) (append-nil m.changes.items) (h.changed.told [] tt)

-- a log that was begun and went on is mended
pub is_mended : (log : List ℕ) (from : ℕ) (m n : Mending) (end : ℕ) (rest : Rest) → IsToMend log from m → MendsOn m n
    → IsHeaded n.bytes.items → IsFrontEnd n.bytes.items from end rest
    → IsMendedLog log from n.bytes.items n.changes.items end rest
is_mended log from m n end rest begun goes headed right =
    let h : IsMended log begun.least n = goes.mended log begun.least begun.mended in
    let told : AreTold log begun.least n.changes.items = told_from log begun.least n h in
    record {
      changed = h.changed.same;
      told = told_before log 0 begun.least n.changes.items (omega arith) told;
      proved = are_proved log n.bytes.items n.changes.items n.at h.proved;
      headed = headed;
      right = right;
      front = λ it. let front = begun.front it in (begun.least, front.0, front.1, told);
    }
