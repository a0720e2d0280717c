-- What a restart finds.
use Rattle.std.proofs.Common.{◌≡◌, ℕ, ◌≤◌, List, [], ◌∷◌, ◌++◌, length, take, Some, Option}
use Rattle.std.proofs.Common.{sym, ap, subst, ◌∙◌, arith, append_assoc}
use Rattle.std.proofs.lemmas.List.{append-nil, length-take}
use Rattle.rq_model.specs.Records.{Record, Commit, Version}
use Rattle.rq_model.specs.Frames.{log_limit, log_of, start}
use Rattle.rq_model.specs.States.{empty}
use Rattle.rq_model.specs.Machine.{all_lawful, run, final, outcome_from, Committed}
use Rattle.rq_model.specs.Fronts.{IsFront, IsRestart, Restarted}
use Rattle.rq_model.specs.Appending.{MayFollow}
use Rattle.rq_model.specs.LogLaws.{OneRestart}
use Rattle.rq_front.specs.Chains.{IsHeaded, Refused}
use Rattle.rq_model.proofs.Restarts.{next_run, follows, header_long}
use Rattle.std.specs.Prelude.{Result, Ok, Err, IfOk, IfErr}
use Rattle.rq_record.specs.declared.fault.Fault.{Fault}
use Rattle.rq_restart.specs.Restarts.{Restarts}
use Rattle.rq_device.specs.Devices.{CrashLeaves, AreStored, IsAllSynced}
use Rattle.rq_left.specs.Left.{SyncedStays, SyncedIsHeaded, BeginningIsExact, CommitStays}
use Rattle.rq_live.specs.Starts.{Plain}
use Rattle.rq_live.specs.Managers.{Stand, IsManaged, IsSafe}
use Rattle.rq_reopen.specs.Reopenings.{GoesOnFrom, Survives, IsNoMishap, IsExact}

-- the front begins with all that was safe
pub begins_with_safe : SyncedStays → (c : List ℕ) (version v : Version) (rs found : List Record) (m : Stand)
    (w rest : List ℕ) → IsManaged (Plain version) rs m → IsSafe (Plain version) rs m → m.written ≡ Some w
    → CrashLeaves m.written m.synced c → IsFront c v found rest
    → (v ≡ version) × (others : List Record) × (found ≡ rs ++ others)
begins_with_safe stays c version v rs found m w rest managed safe known left front =
    let log = log_of version rs in
    let nil = append-nil rs in
    let whole : w ≡ log = subst (λ (k : Option (List ℕ)). AreStored k log) known safe.written in
    let synced : length w ≤ m.synced = subst (λ (k : Option (List ℕ)). IsAllSynced k m.synced) known safe.synced in
    let there : take m.synced c ≡ take m.synced w =
    subst (λ (k : Option (List ℕ)). CrashLeaves k m.synced c) known left in
    stays version v rs [] found m.synced c rest
    (subst (λ (xs : List Record). MayFollow version empty xs) (sym nil) managed.at.may)
    (subst (λ (x : List ℕ). length x ≤ m.synced) whole synced)
    (there ∙ ap (take m.synced) (whole ∙ ap (log_of version) (sym nil))) front

-- a unit that committed among the first records is committed
pub committed_there : CommitStays → (version : Version) (rs others : List Record)
    → MayFollow version empty (rs ++ others)
    → (before after : List Record) (unit : ℕ) → rs ≡ before ++ Commit unit ∷ after
    → outcome_from 0 unit (rs ++ others) ≡ Committed (length before)
committed_there commits version rs others all before after unit split =
    let apart : rs ++ others ≡ (before ++ Commit unit ∷ []) ++ (after ++ others) =
    ap (λ (xs : List Record). xs ++ others) split ∙ append_assoc before (Commit unit ∷ after) others
    ∙ sym (append_assoc before (Commit unit ∷ []) (after ++ others)) in
    ap (outcome_from 0 unit) apart
    ∙ commits version before (after ++ others) unit (ap (all_lawful version empty) (sym apart) ∙ all.lawful)
    ∙ ap (λ (n : ℕ). Committed n) (omega (arith, next_run empty before))

-- what is found goes on from the records that it begins with
goes_on : CommitStays → (version v : Version) (rs found others : List Record) (r : Restarted) → v ≡ version
    → found ≡ rs ++ others → MayFollow v empty found → r.records ≡ length found
    → r.state ≡ final (run empty found) → GoesOnFrom version rs r
goes_on commits version v rs found others r same is may records state =
    let all = subst (λ (u : Version). MayFollow u empty (rs ++ others)) same
    (subst (λ (xs : List Record). MayFollow v empty xs) is may) in
    record {
      others = others;
      may = all;
      records = records ∙ ap length is;
      state = state ∙ ap (λ (xs : List Record). final (run empty xs)) is;
      committed = committed_there commits version rs others all;
    }

next_of : (xs : List Record) → (run empty xs).next ≡ length xs
next_of xs = omega (arith, next_run empty xs)

pub survives : SyncedStays → CommitStays → (c : List ℕ) (r : Restarted) → IsRestart c r → Survives c r
survives stays commits c r is version rs m w managed safe known left =
    let found = begins_with_safe stays c version is.version rs is.records m w is.rest managed safe known left
    is.front in
    goes_on commits version is.version rs is.records found.1 r found.0 found.2
    (follows is.version empty (start is.version) is.front.bytes is.rest is.records is.front.longest.begins)
    (ap (λ (t : Restarted). t.records) is.answer ∙ next_of is.records)
    (ap (λ (t : Restarted). t.state) is.answer)

pub headed_long : (c : List ℕ) → IsHeaded c → 40 ≤ length c
headed_long c h = omega (arith, ap length h.1 ∙ header_long h.0, length-take 40 c)

pub is_exact : BeginningIsExact → OneRestart → (c : List ℕ) (r : Restarted) → 40 ≤ length c → length c ≤ log_limit
    → IsRestart c r → IsExact c r
is_exact begins one c r long short is version rs m w missing managed known front =
    let at = managed.at in
    let bytes : w ≡ managed.bytes =
    subst (λ (k : Option (List ℕ)). AreStored k managed.bytes) known managed.known in
    let pending = m.kernel.pending.items in
    let log : log_of version rs ≡ c ++ (missing ++ pending) =
    at.bytes ∙ ap (λ (x : List ℕ). x ++ pending) (sym bytes ∙ front) ∙ append_assoc c missing pending in
    let left = begins version rs c (missing ++ pending) at.may log long short in
    record {
      count = left.count;
      whole = left.whole;
      state = ap (λ (t : Restarted). t.state) (one c r _ is left.restart);
    }

pub survives_so : SyncedStays → CommitStays → (c : List ℕ) (result : Result Restarted Fault) → Restarts c result
    → IfOk result (Survives c)
survives_so stays commits c (Ok r) h = survives stays commits c r h.2
survives_so stays commits c (Err e) h = tt

pub exact_so : BeginningIsExact → OneRestart → (c : List ℕ) (result : Result Restarted Fault) → Restarts c result
    → IfOk result (IsExact c)
exact_so begins one c (Ok r) h = is_exact begins one c r (headed_long c h.1) h.0 h.2
exact_so begins one c (Err e) h = tt

pub mishap : SyncedIsHeaded → (c : List ℕ) (e : Fault) → Refused c e → IsNoMishap c e
mishap headed c e h version rs m w managed safe known left is =
    let log = log_of version rs in
    let whole : w ≡ log = subst (λ (k : Option (List ℕ)). AreStored k log) known safe.written in
    let synced : length w ≤ m.synced = subst (λ (k : Option (List ℕ)). IsAllSynced k m.synced) known safe.synced in
    let there : take m.synced c ≡ take m.synced w =
    subst (λ (k : Option (List ℕ)). CrashLeaves k m.synced c) known left in
    (subst (Refused c) is h).1 (
      version,
      headed version rs m.synced c
          (subst (λ (x : List ℕ). length x ≤ m.synced) whole synced) (there ∙ ap (take m.synced) whole),
    )

pub mishap_so : SyncedIsHeaded → (c : List ℕ) (result : Result Restarted Fault) → Restarts c result
    → IfErr result (IsNoMishap c)
mishap_so headed c (Ok r) h = tt
mishap_so headed c (Err e) h = mishap headed c e h
