-- A kernel that stands behind what a crash left of a log or of a carried file.
use Rattle.std.proofs.Common.{◌≡◌, ℕ, ◌+◌, ◌≤◌, Bool, List, [], ◌∷◌, ◌++◌, length, take, drop, Some, Option, inl, inr}
use Rattle.std.proofs.Common.{refl, sym, ap, subst, ◌∙◌, arith, append_assoc}
use Rattle.std.specs.List.{AllByRecursion}
use Rattle.std.specs.Prelude.{Result, Ok, Err, IfOk, IfErr, IfSome, IfNone, None}
use Rattle.rq_front.specs.Chains.{IsHeaded}
use Rattle.std.proofs.lemmas.List.{append-nil, take-take, take-append-le, take-append-drop, take_all, length-append}
use Rattle.std.proofs.lemmas.List.{append_cancel_left, drop_at, take_at, length-take, length-drop}
use Rattle.rq_model.specs.Records.{Record, Checkpoint, Commit, Version}
use Rattle.rq_model.specs.Spelling.{body_of, IsRecord}
use Rattle.rq_model.specs.Frames.{log_limit, digest, header, before, frames_of, HasHeader, start}
use Rattle.rq_model.specs.States.{State}
use Rattle.rq_model.specs.Machine.{all_lawful, outcome_from, Committed}
use Rattle.rq_model.specs.StateSpelling.{carried_next, state_bytes, SpellsCarried}
use Rattle.rq_model.specs.Laws.{EmptyIsWellFormed, NumbersAfter}
use Rattle.rq_model.specs.LogLaws.{BytesSpellOneState, OneFront}
use Rattle.rq_model.specs.Fronts.{IsLongest}
use Rattle.rq_model.specs.Appending.{MayFollow, AreWhole, CrashInFrames}
use Rattle.rq_model.specs.Carrying.{IsNoLog, ReadsAsLog, HasCarriedHeader, carried_header, carried_at, as_log}
use Rattle.rq_model.proofs.Longest.{same_first, one_header, one_longest}
use Rattle.rq_model.proofs.Restarts.{header_long, follows}
use Rattle.rq_record.specs.Views.{version_of}
use Rattle.rq_left.specs.Left.{SyncedStays, CommitStays, BeginningIsExact}
use Rattle.rq_device.specs.Devices.{CrashLeaves, AreStored, IsAllSynced}
use Rattle.rq_restart.specs.declared.redone.RedoneFront.{RedoneFront}
use Rattle.rq_restart.specs.RedoneFronts.{IsRedoneAt}
use Rattle.rq_live.specs.declared.kernel.Kernel.{Kernel}
use Rattle.rq_live.specs.Starts.{Start, Plain, Carried, AreBegun, rules_of, base_of, file_of}
use Rattle.rq_live.specs.Starts.{state_reached, last_behind, checkpoint_in}
use Rattle.rq_live.specs.Kernels.{IsKernelBehind, StandsWithin}
use Rattle.rq_live.specs.Managers.{Stand, IsManaged, IsSafe}
use Rattle.rq_live.proofs.Begun.{well_based}
use Rattle.rq_live.proofs.CarriedFiles.{carried_header_long, reads_as, reads_linked, reads_behind}
use Rattle.rq_live.proofs.CarriedFiles.{file_long}
use Rattle.rq_record.specs.declared.fault.Fault.{Fault}
use Rattle.rq_record.specs.declared.fault.Fault.TheVariants.{Resources}
use Rattle.rq_judged.specs.Refusals.{RefusedCarried}
use Rattle.rq_judged.specs.Views.{why_of}
use Rattle.rq_journal.specs.LeftBehind.{IsDamage}
use Rattle.rq_reopen.specs.declared.found_log.FoundLog.{FoundLog}
use Rattle.rq_reopen.specs.declared.openings.Opening.{Opening}
use Rattle.rq_reopen.specs.declared.openings.NotOpened.{NotOpened}
use Rattle.rq_reopen.specs.declared.openings.NotOpened.TheVariants.{Log, Damaged}
use Rattle.rq_reopen.specs.Openings.{MayBeCut, OpensBehind}
use Rattle.rq_reopen.specs.Files.{FindsFrom, OpensFrom, OpensFile}
use Rattle.rq_reopen.specs.Files.{IsCarriedFound, IsFoundIn, GoesOnIn, GoesOnAnywhere, IsBeginningIn, IsExactlyIn}
use Rattle.rq_reopen.proofs.Behind.{goes_on_at, is_exactly_found}
use Rattle.rq_reopen.proofs.Commits.{commits_from}

-- bytes that agree with others up to behind a front of these begin with it
begins_with : (n : ℕ) (c front : List ℕ) → length front ≤ n → take n c ≡ take n front
    → c ≡ front ++ drop (length front) c
begins_with n c front within same =
    let m = length front in
    let taken : take m c ≡ front =
    sym (take-take m n c within) ∙ ap (take m) same ∙ take-take m n front within ∙ take_all m front (omega arith) in
    sym (take-append-drop m c) ∙ ap (λ (x : List ℕ). x ++ drop m c) taken

-- what a crash leaves of a file that is safe begins with it
pub begins_with_file : (from : Start) (rs : List Record) (m : Stand) (w c : List ℕ) → IsSafe from rs m
    → m.written ≡ Some w → CrashLeaves m.written m.synced c
    → c ≡ file_of from rs ++ drop (length (file_of from rs)) c
begins_with_file from rs m w c safe known left =
    let file = file_of from rs in
    let whole : w ≡ file = subst (λ (k : Option (List ℕ)). AreStored k file) known safe.written in
    let synced : length w ≤ m.synced = subst (λ (k : Option (List ℕ)). IsAllSynced k m.synced) known safe.synced in
    let there : take m.synced c ≡ take m.synced w =
    subst (λ (k : Option (List ℕ)). CrashLeaves k m.synced c) known left in
    begins_with m.synced c file (subst (λ (x : List ℕ). length x ≤ m.synced) whole synced)
    (there ∙ ap (take m.synced) whole)

-- of two lists of records that begin the same bytes, the longer one begins with the other
begins_longer : (version : Version) (p x y : List ℕ) (rs fs : List Record) → AllByRecursion (IsRecord version) rs
    → AllByRecursion (IsRecord version) fs → length rs ≤ length fs → frames_of p rs ++ x ≡ frames_of p fs ++ y
    → (others : List Record) × (fs ≡ rs ++ others)
begins_longer version p x y [] fs are were few same = (fs, refl)
begins_longer version p x y (r ∷ rs) [] are were few same = absurd (omega (arith, few))
begins_longer version p x y (r ∷ rs) (f ∷ fs) are were few same =
    let first = same_first version p x y r f rs fs are.0 were.0 same in
    let back : frames_of (digest p (body_of r)) rs ++ x ≡ frames_of (digest p (body_of r)) fs ++ y = first.1 in
    let more = begins_longer version (digest p (body_of r)) x y rs fs are.1 were.1 (omega (arith, few)) back in
    (more.0, λ i. sym first.0 i ∷ more.1 i)

-- the first forty bytes tell which kind it is
pub carried_head : (version : Version) (link bytes more : List ℕ)
    → HasCarriedHeader version (((carried_header version ++ link) ++ bytes) ++ more)
carried_head version link bytes more =
    ap (take 40) (append_assoc (carried_header version ++ link) bytes more
    ∙ append_assoc (carried_header version) link (bytes ++ more))
    ∙ take_at (carried_header version) (link ++ (bytes ++ more)) 40 (carried_header_long version)

pub plain_head : (version : Version) (bytes more : List ℕ) → HasHeader version ((header version ++ bytes) ++ more)
plain_head version bytes more =
    ap (take 40) (append_assoc (header version) bytes more)
    ∙ take_at (header version) (bytes ++ more) 40 (header_long version)

-- a front that was found begins with the records of a carried file, if these begin the same bytes
record Same (version : Version) (link : List ℕ) (s : State) (rs : List Record) (l : FoundLog) : Type 0 where
  pub others : List Record
  pub at : IsKernelBehind (Carried version link s) (rs ++ others)
      (file_of (Carried version link s) (rs ++ others)) l.kernel

-- the log as which a carried file c is read has the link of its file, and its frames
pub record Reads (version : Version) (link bytes b : List ℕ) : Type 0 where
  pub linked : before carried_at b ≡ link
  pub behind : drop carried_at b ≡ bytes

pub reads : (version : Version) (link bytes : List ℕ) → length link ≡ 32
    → Reads version link bytes (as_log version ((carried_header version ++ link) ++ bytes))
reads version link bytes long = record {
  linked = ap (before carried_at) (reads_as version link bytes) ∙ reads_linked version link bytes long;
  behind = ap (drop carried_at) (reads_as version link bytes) ∙ reads_behind version link bytes long;
}

-- the front that was found, by the link and the frames
record Seen (version : Version) (link bytes : List ℕ) (s : State) (l : FoundLog) : Type 0 where
  pub after : List Record
  pub rest : List ℕ
  pub longest : IsLongest version s link bytes (checkpoint_in s ∷ after) rest
  pub at : IsKernelBehind (Carried version link s) (checkpoint_in s ∷ after)
      (file_of (Carried version link s) (checkpoint_in s ∷ after)) l.kernel

seen_in : (version : Version) (link bytes b : List ℕ) (l : FoundLog) → Reads version link bytes b
    → version_of l.version ≡ version → (is : IsCarriedFound b l) → Seen version link bytes is.base l
seen_in version link bytes b l r same is =
    let Found : Version → List ℕ → List ℕ → List ℕ → Type 0 = λ (v : Version) (p x k : List ℕ).
    IsLongest v is.base p x (Checkpoint k ∷ is.after) (drop l.end.used b)
    × IsKernelBehind (Carried v p is.base) (Checkpoint k ∷ is.after)
    (file_of (Carried v p is.base) (Checkpoint k ∷ is.after)) l.kernel in
    let x : Found version link bytes (state_bytes is.base) =
    subst (λ (k : List ℕ). Found version link bytes k) is.front.spells.spelling
    (subst (λ (y : List ℕ). Found version link y is.kept) r.behind
    (subst (λ (p : List ℕ). Found version p (drop carried_at b) is.kept) r.linked
    (subst (λ (v : Version). Found v (before carried_at b) (drop carried_at b) is.kept) same
    (is.front.front, is.at)))) in
    record { after = is.after; rest = drop l.end.used b; longest = x.0; at = x.1 }

-- the state of the first frame is that of the file, if this frame begins it
same_base : BytesSpellOneState → (version : Version) (link : List ℕ) (s t : State) (x y : List ℕ) (rs fs : List Record)
    → SpellsCarried version s (state_bytes s) → SpellsCarried version t (state_bytes t)
    → IsRecord version (checkpoint_in s) → IsRecord version (checkpoint_in t)
    → frames_of link (checkpoint_in s ∷ rs) ++ x ≡ frames_of link (checkpoint_in t ∷ fs) ++ y → t ≡ s
same_base one version link s t x y rs fs spells spelt is were same =
    let first = same_first version link x y (checkpoint_in s) (checkpoint_in t) rs fs is were same in
    let bytes : state_bytes s ≡ state_bytes t = ap (λ (b : List ℕ). drop 1 b) (ap body_of first.0) in
    one carried_next carried_next version version t s (state_bytes s)
    (subst (SpellsCarried version t) (sym bytes) spelt) spells

-- no bytes begin as a log of two versions
pub one_head : (v w : Version) (b : List ℕ) → HasHeader v b → HasHeader w b → v ≡ w
one_head v w b h k =
    (one_header v w (drop 40 b) (drop 40 b) (ap (λ (x : List ℕ). x ++ drop 40 b) (sym h ∙ k))).0

pub read_head : (version : Version) (c : List ℕ) → HasHeader version (as_log version c)
read_head version c = take_at (header version) (drop 40 c) 40 (header_long version)

-- a carried file that was found, by its own link and frames
found_there : ReadsAsLog → (version v : Version) (link bytes c : List ℕ) (l : FoundLog) → length link ≡ 32
    → c ≡ (carried_header version ++ link) ++ bytes → HasCarriedHeader version c → HasCarriedHeader v c
    → (is : IsCarriedFound (as_log v c) l)
    → (version_of l.version ≡ version) × Seen version link bytes is.base l
found_there read version v link bytes c l long parts headed other is =
    let same = read.version version v c headed other in
    let log = as_log v c in
    let own : version_of l.version ≡ version =
    one_head (version_of l.version) v log is.front.header (read_head v c) ∙ sym same in
    let r : Reads version link bytes log =
    subst (λ (u : Version). Reads version link bytes (as_log u c)) same
    (subst (λ (x : List ℕ). Reads version link bytes (as_log version x)) (sym parts) (reads version link bytes long)) in
    (own, seen_in version link bytes log l r own is)

-- the records that are found begin with those of the file
same_records : BytesSpellOneState → (version : Version) (link : List ℕ) (s : State) (rs : List Record) (more : List ℕ)
    (l : FoundLog) (base : State) → AreBegun (Carried version link s) rs → MayFollow version s rs
    → SpellsCarried version base (state_bytes base) → Seen version link (frames_of link rs ++ more) base l
    → Same version link s rs l
same_records one version link s rs more l base begun may spelt seen =
    let (long, spells, ahead, are) = begun in
    let bytes = frames_of link rs ++ more in
    let were = seen.longest.begins.records in
    let mays = subst (MayFollow version s) are may in
    let whole : frames_of link (checkpoint_in s ∷ ahead) ++ more
    ≡ frames_of link (checkpoint_in base ∷ seen.after) ++ seen.rest =
    ap (λ (xs : List Record). frames_of link xs ++ more) (sym are) ∙ seen.longest.begins.whole in
    let is : base ≡ s = same_base one version link s base more seen.rest ahead seen.after spells spelt mays.records.0
    were.0 whole in
    let there : Seen version link bytes s l = subst (λ (t : State). Seen version link bytes t l) is seen in
    let fs : List Record = checkpoint_in s ∷ there.after in
    let few = there.longest.longest rs more (record { records = may.records; lawful = may.lawful; whole = refl }) in
    let (others, split) = begins_longer version link more there.rest rs fs may.records there.longest.begins.records few
    there.longest.begins.whole in
    record {
      others = others;
      at = subst (λ (xs : List Record). IsKernelBehind (Carried version link s) xs (file_of (Carried version link s) xs)
          l.kernel) split there.at;
    }

-- a unit that committed among them is committed
committed_in : EmptyIsWellFormed → NumbersAfter → (from : Start) (rs others : List Record)
    → AreBegun from (rs ++ others)
    → MayFollow (rules_of from) (base_of from) (rs ++ others) → (ahead after : List Record) (unit : ℕ)
    → rs ≡ ahead ++ Commit unit ∷ after
    → outcome_from (base_of from).next unit (rs ++ others) ≡ Committed ((base_of from).next + length ahead)
committed_in bare numbers from rs others begun may ahead after unit split =
    let apart : rs ++ others ≡ ahead ++ Commit unit ∷ (after ++ others) =
    ap (λ (xs : List Record). xs ++ others) split ∙ append_assoc ahead (Commit unit ∷ after) others in
    ap (outcome_from (base_of from).next unit) apart
    ∙ commits_from numbers (rules_of from) (base_of from) ahead (after ++ others) unit
    (well_based bare from (rs ++ others) begun)
    (ap (all_lawful (rules_of from) (base_of from)) (sym apart) ∙ may.lawful)

-- a kernel that stands behind these records and others
goes_on_in : EmptyIsWellFormed → NumbersAfter → (from : Start) (rs others : List Record) (l : FoundLog)
    → version_of l.version ≡ rules_of from → IsKernelBehind from (rs ++ others) (file_of from (rs ++ others)) l.kernel
    → GoesOnIn from rs l
goes_on_in bare numbers from rs others l same at = record {
  others = others;
  same = same;
  at = at;
  committed = committed_in bare numbers from rs others at.begun at.may;
}

pub goes_on_anywhere : SyncedStays → CommitStays → IsNoLog → ReadsAsLog → BytesSpellOneState → EmptyIsWellFormed
    → NumbersAfter → (c : List ℕ) (l : FoundLog) → IsFoundIn c l → GoesOnAnywhere c l
goes_on_anywhere stays commits apart read one bare numbers c l (inl is) (Plain version) rs m w managed safe known left =
    let x = goes_on_at stays commits c l is version rs m w managed safe known left in
    goes_on_in bare numbers (Plain version) rs x.others l x.same x.at
goes_on_anywhere stays commits apart read one bare numbers c l (inl is) (Carried version link s) rs m w managed safe
    known left =
    let file = file_of (Carried version link s) rs in
    let headed = subst (HasCarriedHeader version)
    (sym (begins_with_file (Carried version link s) rs m w c safe known left))
    (carried_head version link (frames_of link rs) (drop (length file) c)) in
    absurd (apart.headed version (version_of l.version) c headed
    (subst (HasHeader (version_of l.version)) (sym is.front.whole)
    (take_at (header (version_of l.version)) is.front.bytes 40 (header_long (version_of l.version)))))
goes_on_anywhere stays commits apart read one bare numbers c l (inr is) (Plain version) rs m w managed safe known left =
    let headed = subst (HasHeader version) (sym (begins_with_file (Plain version) rs m w c safe known left))
    (plain_head version (frames_of (start version) rs) (drop (length (file_of (Plain version) rs)) c)) in
    absurd (apart.headed is.0 version c is.1 headed)
goes_on_anywhere stays commits apart read one bare numbers c l (inr is) (Carried version link s) rs m w managed safe
    known left =
    let from = Carried version link s in
    let file = file_of from rs in
    let more = drop (length file) c in
    let all = begins_with_file from rs m w c safe known left in
    let headed = subst (HasCarriedHeader version) (sym all) (carried_head version link (frames_of link rs) more) in
    let parts = all ∙ append_assoc (carried_header version ++ link) (frames_of link rs) more in
    let found = found_there read version is.0 link (frames_of link rs ++ more) c l managed.at.begun.0 parts headed is.1
    is.2 in
    let spelt = subst (λ (v : Version). SpellsCarried v is.2.base (state_bytes is.2.base)) found.0
    (subst (SpellsCarried (version_of l.version) is.2.base) is.2.front.spells.spelling is.2.front.spells) in
    let x = same_records one version link s rs more l is.2.base managed.at.begun managed.at.may spelt found.1 in
    goes_on_in bare numbers from rs x.others l found.0 x.at

-- Where a crash left a beginning.

-- all bytes of the file, in these that begin what was written and in others
rest_of_file : (from : Start) (rs : List Record) (m : Stand) (w c missing : List ℕ) (managed : IsManaged from rs m)
    → m.written ≡ Some w → w ≡ c ++ missing → file_of from rs ≡ c ++ (missing ++ m.kernel.pending.items)
rest_of_file from rs m w c missing managed known front =
    let pending = m.kernel.pending.items in
    let bytes : w ≡ managed.bytes = subst (λ (k : Option (List ℕ)). AreStored k managed.bytes) known managed.known in
    managed.at.bytes ∙ ap (λ (x : List ℕ). x ++ pending) (sym bytes ∙ front) ∙ append_assoc c missing pending

-- the first bytes of what is whole are those of its beginning
same_front : (n : ℕ) (file c missing : List ℕ) → file ≡ c ++ missing → n ≤ length c → take n c ≡ take n file
same_front n file c missing parts long = sym (take-append-le n c missing long) ∙ ap (take n) (sym parts)

carried_long : (version : Version) (c : List ℕ) → HasCarriedHeader version c → 40 ≤ length c
carried_long version c h =
    omega (arith, length-take 40 c, ap length h, carried_header_long version)

-- what stands behind the link of a file that a crash left a beginning of
record PartOf (version : Version) (link : List ℕ) (rs : List Record) (c missing : List ℕ) : Type 0 where
  pub part : List ℕ
  pub parts : c ≡ (carried_header version ++ link) ++ part
  pub frames : frames_of link rs ≡ part ++ missing

part_of : (version : Version) (link : List ℕ) (rs : List Record) (c missing : List ℕ) → length link ≡ 32
    → (carried_header version ++ link) ++ frames_of link rs ≡ c ++ missing → 72 ≤ length c
    → PartOf version link rs c missing
part_of version link rs c missing long whole size =
    let head = carried_header version ++ link in
    let part = drop 72 c in
    let n : length head ≡ 72 =
    omega (arith, length-append (carried_header version) link, carried_header_long version, long) in
    let first : take 72 c ≡ head =
    same_front 72 (head ++ frames_of link rs) c missing whole size ∙ take_at head (frames_of link rs) 72 n in
    let parts : c ≡ head ++ part = sym (take-append-drop 72 c) ∙ ap (λ (x : List ℕ). x ++ part) first in
    record {
      part = part;
      parts = parts;
      frames = append_cancel_left head (frames_of link rs) (part ++ missing)
          (whole ∙ ap (λ (x : List ℕ). x ++ missing) parts ∙ append_assoc head part missing);
    }

-- the front of that is the records whose frames are whole
exactly_carried : BytesSpellOneState → CrashInFrames
    → (version : Version) (link : List ℕ) (s : State) (rs : List Record)
    (c missing : List ℕ) (l : FoundLog) (base : State) → AreBegun (Carried version link s) rs → MayFollow version s rs
    → SpellsCarried version base (state_bytes base) → (p : PartOf version link rs c missing)
    → Seen version link p.part base l → IsBeginningIn (Carried version link s) rs c l
exactly_carried one crash version link s rs c missing l base begun may spelt p seen =
    let (long, spells, ahead, are) = begun in
    let from = Carried version link s in
    let head = carried_header version ++ link in
    let mays = subst (MayFollow version s) are may in
    let whole : frames_of link (checkpoint_in s ∷ ahead) ++ []
    ≡ frames_of link (checkpoint_in base ∷ seen.after) ++ (seen.rest ++ missing) =
    append-nil (frames_of link (checkpoint_in s ∷ ahead)) ∙ ap (frames_of link) (sym are) ∙ p.frames
    ∙ ap (λ (x : List ℕ). x ++ missing) seen.longest.begins.whole
    ∙ append_assoc (frames_of link (checkpoint_in base ∷ seen.after)) seen.rest missing in
    let is : base ≡ s = same_base one version link s base [] (seen.rest ++ missing) ahead seen.after spells spelt
    mays.records.0 seen.longest.begins.records.0 whole in
    let there : Seen version link p.part s l = subst (λ (t : State). Seen version link p.part t l) is seen in
    let grown = crash version s link [] rs p.part missing (record { records = tt; lawful = refl }) may p.frames in
    let same = one_longest version s link p.part (checkpoint_in s ∷ there.after) (take grown.count rs) there.rest
    grown.rest there.longest grown.front in
    record {
      count = grown.count;
      whole = subst (λ (x : List ℕ). AreWhole link rs x grown.count)
          (sym (ap (drop (length head)) p.parts ∙ drop_at head p.part (length head) refl)) grown.whole;
      at = subst (λ (xs : List Record). IsKernelBehind from xs (file_of from xs) l.kernel) same.0 there.at;
    }

pub is_exactly_in : BeginningIsExact → OneFront → IsNoLog → ReadsAsLog → BytesSpellOneState → CrashInFrames
    → (c : List ℕ) (l : FoundLog) → IsFoundIn c l → IsExactlyIn c l
is_exactly_in begins fronts apart read one crash c l (inl is) (Plain version) rs m w missing managed known front =
    let x = is_exactly_found begins fronts c l is version rs m w missing managed known front in
    record {
      count = x.count;
      whole = subst (λ (n : ℕ). AreWhole (start version) rs (drop n c) x.count) (sym (header_long version)) x.whole;
      at = x.at;
    }
is_exactly_in begins fronts apart read one crash c l (inl is) (Carried version link s) rs m w missing managed known
    front =
    let all = rest_of_file (Carried version link s) rs m w c missing managed known front in
    let own = header (version_of l.version) in
    let there : HasHeader (version_of l.version) c = ap (take 40) is.front.whole
    ∙ take_at own is.front.bytes 40 (header_long (version_of l.version)) in
    let long : 40 ≤ length c = omega (arith, length-take 40 c, ap length there, header_long (version_of l.version)) in
    let headed : HasCarriedHeader version c =
    same_front 40 (file_of (Carried version link s) rs) c (missing ++ m.kernel.pending.items) all long
    ∙ ap (take 40) (append_assoc (carried_header version) link (frames_of link rs))
    ∙ take_at (carried_header version) (link ++ frames_of link rs) 40 (carried_header_long version) in
    absurd (apart.headed version (version_of l.version) c headed there)
is_exactly_in begins fronts apart read one crash c l (inr is) (Plain version) rs m w missing managed known front =
    let all = rest_of_file (Plain version) rs m w c missing managed known front in
    let headed : HasHeader version c =
    same_front 40 (file_of (Plain version) rs) c (missing ++ m.kernel.pending.items) all (carried_long is.0 c is.1)
    ∙ take_at (header version) (frames_of (start version) rs) 40 (header_long version) in
    absurd (apart.headed is.0 version c is.1 headed)
is_exactly_in begins fronts apart read one crash c l (inr is) (Carried version link s) rs m w missing managed known
    front =
    let all = rest_of_file (Carried version link s) rs m w c missing managed known front in
    let others = missing ++ m.kernel.pending.items in
    let size : 72 ≤ length c = omega (
      arith,
      is.2.front.checkpoint.frame.whole.room,
      length-drop 72 (as_log is.0 c),
      read.size is.0 c is.1,
    ) in
    let headed : HasCarriedHeader version c =
    same_front 40 (file_of (Carried version link s) rs) c others all (omega (arith, size))
    ∙ ap (take 40) (append_assoc (carried_header version) link (frames_of link rs))
    ∙ take_at (carried_header version) (link ++ frames_of link rs) 40 (carried_header_long version) in
    let p = part_of version link rs c others managed.at.begun.0 all size in
    let found = found_there read version is.0 link p.part c l managed.at.begun.0 p.parts headed is.1 is.2 in
    let spelt = subst (λ (v : Version). SpellsCarried v is.2.base (state_bytes is.2.base)) found.0
    (subst (SpellsCarried (version_of l.version) is.2.base) is.2.front.spells.spelling is.2.front.spells) in
    exactly_carried one crash version link s rs c others l is.2.base managed.at.begun managed.at.may spelt p found.1

-- the machine stands behind the front from the first frame on
pub is_found_from : (b : List ℕ) (f : RedoneFront) (machine : State) (k : Kernel) → IsRedoneAt b carried_at f
    → machine ≡ f.state
    → ((from : Start) (rs : List Record) → version_of f.version ≡ rules_of from → AreBegun from rs
    → MayFollow (rules_of from) (base_of from) rs → length (file_of from rs) ≤ log_limit
    → machine ≡ state_reached from rs → f.last ≡ last_behind from rs → f.end.used ≡ length (file_of from rs)
    → IsKernelBehind from rs (file_of from rs) k)
    → IsCarriedFound b (record { version = f.version; end = f.end; kernel = k })
is_found_from b f machine k is same behind =
    let version = version_of f.version in
    let link = before carried_at b in
    let rs : List Record = Checkpoint is.kept ∷ is.after in
    let from = Carried version link is.base in
    let spells = is.front.spells in
    let room = is.front.checkpoint.frame.whole.room in
    let long : length link ≡ 32 = link_there b (omega (arith, room, length-drop 72 b)) in
    let size = file_long version link is.base rs long in
    let bytes : 72 + length (frames_of link rs) ≤ length b = omega (
      arith,
      ap length is.front.front.begins.whole,
      length-append (frames_of link rs) (drop f.end.used b),
      length-drop 72 b,
      room,
    ) in
    record {
      base = is.base;
      kept = is.kept;
      after = is.after;
      front = is.front;
      ends = is.ends;
      used = is.used;
      count = is.count;
      at = behind from rs refl (
        long,
        subst (SpellsCarried version is.base) spells.spelling spells,
        is.after,
        ap (λ (k : List ℕ). Checkpoint k ∷ is.after) spells.spelling,
      )
          (follows version is.base link (drop carried_at b) (drop f.end.used b) rs is.front.front.begins)
          (omega (arith, size, bytes, is.front.short)) (same ∙ is.state) is.last (is.used ∙ sym size);
    }
  where
    link_there : (b : List ℕ) → 72 ≤ length b → length (before carried_at b) ≡ 32
    link_there b size = omega (arith, size, length-take 32 (drop 40 b), length-drop 40 b)

-- it stands within these bytes, and no frame is pending
pub stands_within_from : (b : List ℕ) (l : FoundLog) → IsCarriedFound b l → StandsWithin l.kernel (length b)
stands_within_from b l is =
    let version = version_of l.version in
    let link = before carried_at b in
    let rs : List Record = Checkpoint is.kept ∷ is.after in
    let file = file_of (Carried version link is.base) rs in (
      append_cancel_left file l.kernel.pending.items [] (sym is.at.bytes ∙ sym (append-nil file)),
      omega (
        arith,
        is.at.len,
        file_long version link is.base rs is.at.begun.0,
        ap length is.front.front.begins.whole,
        length-append (frames_of link rs) (drop l.end.used b),
        length-drop 72 b,
        is.front.checkpoint.frame.whole.room,
      ),
    )

-- What is opened.

pub found_from : (b : List ℕ) (f : RedoneFront) (result : Result FoundLog Fault) → IsRedoneAt b carried_at f
    → IfOk result (λ (l : FoundLog). (c : List ℕ) → IsRedoneAt c carried_at f → IsCarriedFound c l)
    → IfErr result (λ (e : Fault). e ≡ Resources) → FindsFrom b result
found_from b f (Ok l) is found refused = found b is
found_from b f (Err e) is found refused = subst (RefusedCarried b carried_at) (sym refused) tt

pub within_from : (b : List ℕ) (result : Result FoundLog Fault) → FindsFrom b result
    → IfOk result (λ (l : FoundLog). StandsWithin l.kernel (length b))
within_from b (Ok l) is = stands_within_from b l is
within_from b (Err e) is = tt

-- a front from the first frame on is longer than a link, and stands within the bytes
pub found_within_from : (b : List ℕ) (l : FoundLog) → IsCarriedFound b l → (32 ≤ l.end.used) × (l.end.used ≤ length b)
found_within_from b l is = (
  omega (arith, is.used),
  omega (
    arith,
    is.used,
    ap length is.front.front.begins.whole,
    length-append (frames_of (before carried_at b) (Checkpoint is.kept ∷ is.after)) (drop l.end.used b),
    length-drop 72 b,
    is.front.checkpoint.frame.whole.room,
  ),
)

-- behind the front that was found
pub opens_from : (b : List ℕ) (l : FoundLog) (drops : Bool) → IsCarriedFound b l → (result : Result Opening NotOpened)
    → OpensBehind b l drops result → OpensFrom b drops result
opens_from b l drops found (Ok o) is = (
  subst (IsCarriedFound b) (sym is.0) found,
  is.1 ∙ ap (λ (x : FoundLog). drop x.end.used b) (sym is.0),
  subst (λ (x : FoundLog). MayBeCut b x drops o.damage) (sym is.0) is.2,
)
opens_from b l drops found (Err (Log fault)) is = subst (RefusedCarried b carried_at) (sym is) tt
opens_from b l drops found (Err (Damaged x damage)) is = (
  subst (IsCarriedFound b) (sym is.0) found,
  is.1,
  subst (λ (z : FoundLog). IsDamage b z.end.used (why_of z.end.why) damage) (sym is.0) is.2,
)

-- what is found of a file
pub found_in_file : (c : List ℕ) (drops : Bool) (o : Opening) → OpensFile c drops (Ok o) → IsFoundIn c o.found
found_in_file c drops o (inl opens) = inl opens.1.0
found_in_file c drops o (inr opens) = inr (opens.0, opens.1, opens.2.0)

pub file_so : (P : FoundLog → Type 0) (c : List ℕ) (drops : Bool) (result : Result Opening NotOpened)
    → OpensFile c drops result → ((l : FoundLog) → IsFoundIn c l → P l) → IfOk result (λ (o : Opening). P o.found)
file_so P c drops (Ok o) opens all = all o.found (found_in_file c drops o opens)
file_so P c drops (Err e) opens all = tt

-- a carried file that was read as a log has its own header again
pub written_back : {X : Type 0} (version : X → Version) → ReadsAsLog → (v : Version) (c b x : List ℕ)
    → HasCarriedHeader v c → b ≡ as_log v c → (result : Option X)
    → IfSome result (λ w. HasHeader (version w) b × (x ≡ carried_header (version w) ++ drop 40 b))
    → IfNone result ((IsHeaded b → ⊥) × (x ≡ b)) → x ≡ c
written_back version read v c b x headed is (Some w) some none =
    let same = one_head (version w) v (as_log v c) (subst (HasHeader (version w)) is some.0) (read_head v c) in
    some.1 ∙ (λ i. carried_header (same i) ++ drop 40 (is i)) ∙ sym (read.back v c headed)
written_back version read v c b x headed is None some none =
    absurd (none.0 (v, subst (HasHeader v) (sym is) (read_head v c)))
