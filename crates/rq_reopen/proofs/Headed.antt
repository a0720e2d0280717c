-- What a crash leaves of a file that was safe is not refused as none, nor for its first frame.
use Rattle.std.proofs.Common.{◌≡◌, ℕ, Bool, List, ◌∷◌, ◌++◌, length, drop, Some, inl, inr}
use Rattle.std.proofs.Common.{sym, ap, subst, ◌∙◌, arith, append_assoc}
use Rattle.std.specs.Prelude.{Result, Ok, Err, IfErr}
use Rattle.rq_model.specs.Records.{Record, Version}
use Rattle.rq_model.specs.Spelling.{body_of}
use Rattle.rq_model.specs.Frames.{digest, frame, frames_of, body_in, HasHeader, HasRightFrame, start}
use Rattle.rq_model.specs.States.{State}
use Rattle.rq_model.specs.StateSpelling.{state_bytes, SpellsCarried}
use Rattle.rq_model.specs.LogLaws.{FrameIsRight}
use Rattle.rq_model.specs.Checkpoints.{IsCheckpointAt}
use Rattle.rq_model.specs.Appending.{MayFollow}
use Rattle.rq_model.specs.Carrying.{IsNoLog, ReadsAsLog, HasCarriedHeader, as_log, carried_at, carried_header}
use Rattle.rq_model.proofs.RecordReaders.{body_fits}
use Rattle.rq_record.specs.declared.fault.Fault.{Fault}
use Rattle.rq_record.specs.declared.fault.Fault.TheVariants as fault
use Rattle.rq_front.specs.Chains.{IsCarried, Refused}
use Rattle.rq_judged.specs.Refusals.{RefusedCarried}
use Rattle.rq_device.specs.Devices.{CrashLeaves}
use Rattle.rq_live.specs.Starts.{Plain, Carried, AreBegun, file_of, checkpoint_in}
use Rattle.rq_live.specs.Managers.{Stand, IsManaged, IsSafe}
use Rattle.rq_reopen.specs.declared.openings.Opening.{Opening}
use Rattle.rq_reopen.specs.declared.openings.NotOpened.{NotOpened}
use Rattle.rq_reopen.specs.declared.openings.NotOpened.TheVariants.{Log, Damaged}
use Rattle.rq_reopen.specs.Files.{OpensFile, IsNotShutIn}
use Rattle.rq_reopen.proofs.Files.{begins_with_file, carried_head, plain_head, one_head, read_head, Reads, reads}

-- the first frame of a file that was safe
first_there : FrameIsRight → (version : Version) (link more b : List ℕ) (s : State) (rs : List Record)
    → AreBegun (Carried version link s) rs → MayFollow version s rs → Reads version link (frames_of link rs ++ more) b
    → IsCheckpointAt b carried_at (state_bytes s)
first_there right version link more b s rs begun may r =
    let (long, spells, ahead, are) = begun in
    let body = body_of (checkpoint_in s) in
    let mays = subst (MayFollow version s) are may in
    let others = frames_of (digest link body) ahead ++ more in
    let first = right link body others (body_fits version (checkpoint_in s) mays.records.0) in
    let is : drop carried_at b ≡ frame link body ++ others =
    r.behind ∙ ap (λ (xs : List Record). frames_of link xs ++ more) are
    ∙ append_assoc (frame link body) (frames_of (digest link body) ahead) more in
    let held : body_in (drop carried_at b) ≡ 9 ∷ state_bytes s = ap body_in is ∙ first.1 in
    record {
      past_header = omega arith;
      frame = subst (λ (p : List ℕ). HasRightFrame p (drop carried_at b)) (sym r.linked)
          (subst (HasRightFrame link) (sym is) first.0);
      body = held;
    }

-- a log
not_shut_plain : (c : List ℕ) (e : Fault) → (IsCarried c → ⊥) → Refused c e → IsNotShutIn c (Log e)
not_shut_plain c fault.TooLong apart h from rs m w managed safe known left = tt
not_shut_plain c fault.Resources apart h from rs m w managed safe known left = tt
not_shut_plain c fault.NotALog apart h (Plain version) rs m w managed safe known left =
    absurd (h.1 (
      version,
      subst (HasHeader version) (sym (begins_with_file (Plain version) rs m w c safe known left))
          (plain_head version (frames_of (start version) rs) (drop (length (file_of (Plain version) rs)) c)),
    ))
not_shut_plain c fault.NotALog apart h (Carried version link s) rs m w managed safe known left =
    absurd (apart (
      version,
      subst (HasCarriedHeader version)
          (sym (begins_with_file (Carried version link s) rs m w c safe known left))
          (carried_head version link (frames_of link rs) (drop (length (file_of (Carried version link s) rs)) c)),
    ))
not_shut_plain c fault.Form apart h from rs m w managed safe known left = absurd h
not_shut_plain c fault.TooLarge apart h from rs m w managed safe known left = absurd h
not_shut_plain c fault.BadCheckpoint apart h from rs m w managed safe known left = absurd h
not_shut_plain c fault.NoCheckpoint apart h from rs m w managed safe known left = absurd h
not_shut_plain c (fault.Script line) apart h from rs m w managed safe known left = absurd h
not_shut_plain c fault.ReadFailed apart h from rs m w managed safe known left = absurd h
not_shut_plain c fault.WriteFailed apart h from rs m w managed safe known left = absurd h

-- a log that was safe does not begin as a carried file
never_plain : IsNoLog → (v version : Version) (rs : List Record) (m : Stand) (w c : List ℕ) → HasCarriedHeader v c
    → IsSafe (Plain version) rs m → m.written ≡ Some w → CrashLeaves m.written m.synced c → ⊥
never_plain apart v version rs m w c headed safe known left =
    apart.headed v version c headed
    (subst (HasHeader version) (sym (begins_with_file (Plain version) rs m w c safe known left))
    (plain_head version (frames_of (start version) rs) (drop (length (file_of (Plain version) rs)) c)))

-- the first frame of what is left of a carried file
first_left : FrameIsRight → ReadsAsLog
    → (v version : Version) (link : List ℕ) (s : State) (rs : List Record) (m : Stand)
    (w c : List ℕ) → HasCarriedHeader v c → IsManaged (Carried version link s) rs m
    → IsSafe (Carried version link s) rs m → m.written ≡ Some w → CrashLeaves m.written m.synced c
    → (version ≡ v) × IsCheckpointAt (as_log v c) carried_at (state_bytes s) × SpellsCarried v s (state_bytes s)
first_left right read v version link s rs m w c headed managed safe known left =
    let from = Carried version link s in
    let more = drop (length (file_of from rs)) c in
    let all = begins_with_file from rs m w c safe known left in
    let own = subst (HasCarriedHeader version) (sym all) (carried_head version link (frames_of link rs) more) in
    let same = read.version version v c own headed in
    let parts = all ∙ append_assoc (carried_header version ++ link) (frames_of link rs) more in
    let r : Reads version link (frames_of link rs ++ more) (as_log v c) =
    subst (λ (u : Version). Reads version link (frames_of link rs ++ more) (as_log u c)) same
    (subst (λ (x : List ℕ). Reads version link (frames_of link rs ++ more) (as_log version x)) (sym parts)
    (reads version link (frames_of link rs ++ more) managed.at.begun.0)) in (
      same,
      first_there right version link more (as_log v c) s rs managed.at.begun managed.at.may r,
      subst (λ (u : Version). SpellsCarried u s (state_bytes s)) same managed.at.begun.1,
    )

-- a carried file
not_shut_carried : FrameIsRight → IsNoLog → ReadsAsLog → (v : Version) (c : List ℕ) (e : Fault) → HasCarriedHeader v c
    → RefusedCarried (as_log v c) carried_at e → IsNotShutIn c (Log e)
not_shut_carried right apart read v c fault.TooLong headed h from rs m w managed safe known left = tt
not_shut_carried right apart read v c fault.Resources headed h from rs m w managed safe known left = tt
not_shut_carried right apart read v c fault.NotALog headed h from rs m w managed safe known left =
    absurd (h.1 (v, read_head v c))
not_shut_carried right apart read v c fault.NoCheckpoint headed h (Plain version) rs m w managed safe known left =
    absurd (never_plain apart v version rs m w c headed safe known left)
not_shut_carried right apart read v c fault.NoCheckpoint headed h (Carried version link s) rs m w managed safe known
    left =
    let x = first_left right read v version link s rs m w c headed managed safe known left in
    absurd (h.2 (state_bytes s) x.1)
not_shut_carried right apart read v c fault.BadCheckpoint headed h (Plain version) rs m w managed safe known left =
    absurd (never_plain apart v version rs m w c headed safe known left)
not_shut_carried right apart read v c fault.BadCheckpoint headed h (Carried version link s) rs m w managed safe known
    left =
    let x = first_left right read v version link s rs m w c headed managed safe known left in
    let same = one_head v h.1 (as_log v c) (read_head v c) h.2 in
    let kept : state_bytes s ≡ h.3 = ap (λ (b : List ℕ). drop 1 b) (sym x.1.body ∙ h.4.body) in
    absurd (h.5 s (subst (SpellsCarried h.1 s) kept
    (subst (λ (u : Version). SpellsCarried u s (state_bytes s)) same x.2)))
not_shut_carried right apart read v c fault.Form headed h from rs m w managed safe known left = absurd h
not_shut_carried right apart read v c fault.TooLarge headed h from rs m w managed safe known left = absurd h
not_shut_carried right apart read v c (fault.Script line) headed h from rs m w managed safe known left = absurd h
not_shut_carried right apart read v c fault.ReadFailed headed h from rs m w managed safe known left = absurd h
not_shut_carried right apart read v c fault.WriteFailed headed h from rs m w managed safe known left = absurd h

pub not_shut_in : FrameIsRight → IsNoLog → ReadsAsLog → (c : List ℕ) (drops : Bool) (result : Result Opening NotOpened)
    → OpensFile c drops result → IfErr result (IsNotShutIn c)
not_shut_in right apart read c drops (Ok o) opens = tt
not_shut_in right apart read c drops (Err (Damaged found damage)) opens = tt
not_shut_in right apart read c drops (Err (Log e)) (inl opens) = not_shut_plain c e opens.0 opens.1
not_shut_in right apart read c drops (Err (Log e)) (inr opens) = not_shut_carried right apart read opens.0 c e opens.1
    opens.2
