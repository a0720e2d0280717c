-- A kernel that stands behind what a crash left.
use Rattle.std.proofs.Common.{◌≡◌, ℕ, ◌≤◌, List, [], length, drop}
use Rattle.std.proofs.Common.{ap, sym, subst, ◌∙◌, ◌++◌, arith, append_assoc, take, Option, refl}
use Rattle.rq_device.specs.Devices.{AreStored}
use Rattle.std.proofs.lemmas.List.{append-nil, append_cancel_left, length-append}
use Rattle.rq_model.specs.Records.{Record, Version}
use Rattle.rq_model.specs.Frames.{log_limit, log_of, start, header, frames_of}
use Rattle.rq_model.specs.LogLaws.{OneFront}
use Rattle.rq_model.specs.States.{State, empty}
use Rattle.rq_model.specs.Appending.{MayFollow}
use Rattle.rq_model.proofs.Longest.{front_whole}
use Rattle.rq_model.proofs.Restarts.{follows, header_long}
use Rattle.rq_record.specs.Views.{version_of}
use Rattle.rq_restart.specs.declared.redone.RedoneFront.{RedoneFront}
use Rattle.rq_restart.specs.RedoneFronts.{IsRedoneFront}
use Rattle.rq_left.specs.Left.{SyncedStays, SyncedIsHeaded, CommitStays, BeginningIsExact}
use Rattle.rq_live.specs.declared.kernel.Kernel.{Kernel}
use Rattle.rq_live.specs.Kernels.{IsKernelBehind, StandsWithin}
use Rattle.rq_live.specs.Starts.{Start, Plain, AreBegun, rules_of, base_of, file_of, state_reached, last_behind}
use Rattle.rq_reopen.specs.declared.found_log.FoundLog.{FoundLog}
use Rattle.std.specs.Prelude.{Result, Ok, Err, IfOk, IfErr}
use Rattle.rq_record.specs.declared.fault.Fault.{Fault}
use Rattle.rq_record.specs.declared.fault.Fault.TheVariants.{Resources}
use Rattle.rq_front.specs.Chains.{Refused}
use Rattle.rq_reopen.specs.Reopenings.{IsNoMishap}
use Rattle.rq_reopen.specs.Openings.{Finds, IsFound, GoesOnAt, IsExactlyFound}
use Rattle.rq_reopen.proofs.Found.{begins_with_safe, committed_there, mishap}

-- the machine stands behind the front
pub is_found : (c : List ℕ) (f : RedoneFront) (machine : State) (k : Kernel) → IsRedoneFront c f → machine ≡ f.state
    → ((from : Start) (rs : List Record) → version_of f.version ≡ rules_of from → AreBegun from rs
    → MayFollow (rules_of from) (base_of from) rs → length (file_of from rs) ≤ log_limit
    → machine ≡ state_reached from rs → f.last ≡ last_behind from rs → f.end.used ≡ length (file_of from rs)
    → IsKernelBehind from rs (file_of from rs) k)
    → IsFound c (record { version = f.version; end = f.end; kernel = k })
is_found c f machine k is same behind = record {
  records = rs;
  front = is.front;
  ends = is.ends;
  used = is.used;
  count = is.count;
  at = behind (Plain version) rs refl tt
      (follows version empty (start version) is.front.bytes (drop f.end.used c) rs is.front.longest.begins)
      (omega (
        arith,
        ap length (front_whole c version rs (drop f.end.used c) is.front),
        length-append (log_of version rs) (drop f.end.used c),
        is.front.short,
      ))
      (same ∙ is.state)
      is.last is.used;
}
  where
    version : Version
    version = version_of f.version

    rs : List Record
    rs = is.records

pub goes_on_at : SyncedStays → CommitStays → (c : List ℕ) (l : FoundLog) → IsFound c l → GoesOnAt c l
goes_on_at stays commits c l is version rs m w managed safe known left =
    let found = begins_with_safe stays c version (version_of l.version) rs is.records m w
    (drop l.end.used c) managed safe
    known left is.front in
    let at = subst (λ (v : Version). IsKernelBehind (Plain v) is.records (log_of v is.records) l.kernel) found.0 is.at in
    let there = subst (λ (xs : List Record). IsKernelBehind (Plain version) xs (log_of version xs) l.kernel) found.2 at in
    record {
      others = found.1;
      same = found.0;
      at = there;
      committed = committed_there commits version rs found.1 there.may;
    }

-- if the crash left a beginning, the front is that of the records whose frames are whole
pub is_exactly_found : BeginningIsExact → OneFront → (c : List ℕ) (l : FoundLog) → IsFound c l → IsExactlyFound c l
is_exactly_found begins one c l is version rs m w missing managed known front =
    let at = managed.at in
    let bytes : w ≡ managed.bytes =
    subst (λ (k : Option (List ℕ)). AreStored k managed.bytes) known managed.known in
    let pending = m.kernel.pending.items in
    let log : log_of version rs ≡ c ++ (missing ++ pending) =
    at.bytes ∙ ap (λ (x : List ℕ). x ++ pending) (sym bytes ∙ front) ∙ append_assoc c missing pending in
    let long : 40 ≤ length c = headed_front c l is in
    let left = begins version rs c (missing ++ pending) at.may log long is.front.short in
    let same = one c (version_of l.version) version is.records (take left.count rs)
    (drop l.end.used c) left.rest is.front left.front in
    record {
      count = left.count;
      whole = left.whole;
      at = subst (λ (xs : List Record). IsKernelBehind (Plain version) xs (log_of version xs) l.kernel) same.1
          (subst (λ (v : Version). IsKernelBehind (Plain v) is.records (log_of v is.records) l.kernel) same.0 is.at);
    }
  where
    headed_front : (c : List ℕ) (l : FoundLog) → IsFound c l → 40 ≤ length c
    headed_front c l is = omega (
      arith,
      ap length (front_whole c (version_of l.version) is.records (drop l.end.used c) is.front),
      length-append (log_of (version_of l.version) is.records) (drop l.end.used c),
      length-append (header (version_of l.version)) (frames_of (start (version_of l.version)) is.records),
      header_long (version_of l.version),
    )

-- it stands within the bytes that were found, and no frame is pending
pub stands_within : (c : List ℕ) (l : FoundLog) → IsFound c l → StandsWithin l.kernel (length c)
stands_within c l is =
    let log = log_of (version_of l.version) is.records in (
      append_cancel_left log l.kernel.pending.items [] (sym is.at.bytes ∙ sym (append-nil log)),
      omega (
        arith,
        is.at.len,
        ap length (front_whole c (version_of l.version) is.records (drop l.end.used c) is.front),
        length-append log (drop l.end.used c),
      ),
    )

-- nor behind where the front ends
pub stands_at : (c : List ℕ) (l : FoundLog) → IsFound c l → StandsWithin l.kernel l.end.used
stands_at c l is = ((stands_within c l is).0, omega (arith, is.at.len, is.used))

-- What is found, or why nothing is.

pub found_so : (c : List ℕ) (f : RedoneFront) (result : Result FoundLog Fault) → IsRedoneFront c f
    → IfOk result (λ (l : FoundLog). (b : List ℕ) → IsRedoneFront b f → IsFound b l)
    → IfErr result (λ (e : Fault). e ≡ Resources) → Finds c result
found_so c f (Ok l) is found refused = found c is
found_so c f (Err e) is found refused = subst (Refused c) (sym refused) tt

pub so_found : (P : FoundLog → Type 0) (c : List ℕ) (result : Result FoundLog Fault) → Finds c result
    → ((l : FoundLog) → IsFound c l → P l) → IfOk result P
so_found P c (Ok l) is all = all l is
so_found P c (Err e) is all = tt

pub headed_so : SyncedIsHeaded → (c : List ℕ) (result : Result FoundLog Fault) → Finds c result
    → IfErr result (IsNoMishap c)
headed_so headed c (Ok l) is = tt
headed_so headed c (Err e) is = mishap headed c e is
