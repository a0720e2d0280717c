-- What the front of a log gives: its restart, and the state behind it.
use Rattle.std.proofs.Common.{◌≡◌, ℕ, ◌-◌, List, ◌∷◌, length, map, drop, sym, ap, subst, ◌∙◌, ◌≤◌, arith}
use Rattle.std.specs.Prelude.{Result, Ok, Err, IfOk, IfErr}
use Rattle.std.proofs.lemmas.List.{length-drop, length-take}
use Rattle.rq_model.specs.States.{State, empty}
use Rattle.rq_model.specs.StateSpelling.{carried_next}
use Rattle.rq_model.specs.Machine.{run}
use Rattle.rq_model.specs.Fronts.{Restarted, restarted, IsFront, IsWhy, Why}
use Rattle.rq_record.specs.declared.fault.Fault.{Fault}
use Rattle.rq_record.specs.declared.fault.Fault.TheVariants as faults
use Rattle.rq_record.specs.Views.{record_of, version_of}
use Rattle.rq_judged.specs.FrontEnds.{IsFrontFrom}
use Rattle.rq_judged.specs.Views.{why_of}
use Rattle.rq_judged.proofs.Starts.{is_restart, started}
use Rattle.rq_restart.specs.RedoneFronts.{IsFoundAt, IsFoundFront, IsRedoneFront, IsStateBehind, RedoesFront}
use Rattle.rq_restart.specs.RedoneFronts.{RedoesFrontAt}
use Rattle.rq_restart.specs.Restarts.{Restarts, RestartsUpTo}
use Rattle.rq_restart.specs.declared.restarts.FoundFront.{FoundFront}
use Rattle.rq_model.specs.Records.{Record, Checkpoint, Version}
use Rattle.rq_model.specs.Frames.{log_limit, HasHeader, log_of, start, last_of, before}
use Rattle.rq_model.specs.LogLaws.{LogEnds}
use Rattle.rq_record.specs.declared.fault.Fault.TheVariants.{Resources}
use Rattle.rq_restart.specs.declared.redone.RedoneFront.{RedoneFront}
use Rattle.rq_restart.proofs.Endings.{front_of}
use Rattle.rq_model.specs.Carrying.{IsCarriedFront}
use Rattle.rq_judged.proofs.Checkpoints.{from_checkpoint}

-- it begins in the empty state
pub from_empty : (b : List ℕ) (f : FoundFront) → IsFoundFront b f
    → IsFrontFrom (version_of f.version) empty b 40 (map record_of f.front.records.items) f.front.end
    (why_of f.front.why)
from_empty b f is =
    subst (λ (s : State). IsFrontFrom (version_of f.version) s b 40 (map record_of f.front.records.items) f.front.end
    (why_of f.front.why)) is.start is.found.front

-- what is answered of a front
abbrev pub Answers : ℕ → FoundFront → Result Restarted Fault → Type 0
Answers total f result = IfOk result (λ r. r ≡ restarted (run f.state (map record_of f.front.records.items))
    (total - f.front.end) total (why_of f.front.why))

-- of all of the log it is the restart
pub restarts : (b : List ℕ) (f : FoundFront) → IsFoundFront b f → (total : ℕ) → total ≡ length b
    → (result : Result Restarted Fault) → Answers total f result → IfErr result (λ e. e ≡ faults.Resources)
    → Restarts b result
restarts b f is total all (Ok r) answer refused =
    let version = version_of f.version in
    let rs = map record_of f.front.records.items in
    let why = why_of f.front.why in (
      is.found.short,
      (version, is.header),
      is_restart version is.ends b rs f.front.end why r is.found.short is.header (from_empty b f is)
          (answer ∙ (λ i. restarted (run (is.start i) rs) (all i - f.front.end) (all i) why)),
    )
restarts b f is total all (Err e) answer refused = rw refused tt

-- and of the front from the checkpoint it is the restart from there
pub restarts_at : (most : ℕ) (b : List ℕ) (offset : ℕ) (f : FoundFront) → IsFoundAt most b offset f → (total : ℕ)
    → total ≡ length b
    → (result : Result Restarted Fault) → Answers total f result → IfErr result (λ e. e ≡ faults.Resources)
    → RestartsUpTo most b offset result
restarts_at most b offset f is total all (Ok r) answer refused =
    let begun = is.begun in
    let rs = map record_of f.front.records.items in
    let why = why_of f.front.why in (
      is.found.short,
      (version_of f.version, begun.header),
      record {
        version = version_of f.version;
        state = f.state;
        kept = begun.kept;
        records = rs;
        rest = drop f.front.end b;
        why = why;
        short = is.found.short;
        header = begun.header;
        checkpoint = begun.checkpoint;
        spells = begun.spells;
        front = is.found.front.longest;
        ends = is.found.front.ends;
        answer = answer ∙ (λ i. restarted (run f.state rs) (all i - f.front.end) (all i) why)
            ∙ ap (λ (n : ℕ). restarted (run f.state rs) n (length b) why) (sym (length-drop f.front.end b));
      },
    )
restarts_at most b offset f is total all (Err e) answer refused = rw refused tt

-- the front behind the header, and the state behind it
redone : LogEnds → (b : List ℕ) (version : Version) (rs : List Record) (end : ℕ) (why : Why) (f : RedoneFront)
    → length b ≤ log_limit → HasHeader version b → IsFrontFrom version empty b 40 rs end why
    → IsStateBehind version empty b rs end why f → IsRedoneFront b f
redone law b version rs end why f short head h behind =
    let is = front_of version law b rs end why short head h in
    let rules = sym behind.rules in
    record {
      records = rs;
      front = subst (λ (v : Version). IsFront b v rs (drop f.end.used b)) rules
          (subst (λ (n : ℕ). IsFront b version rs (drop n b)) (sym behind.used) is.front);
      ends = subst (λ (v : Version). IsWhy v (run empty rs) (last_of (start v) rs) (drop f.end.used b) (why_of f.end.why)) rules
          (subst (λ (n : ℕ). IsWhy version (run empty rs) (last_of (start version) rs) (drop n b) (why_of f.end.why)) (sym behind.used)
          (subst (λ (w : Why). IsWhy version (run empty rs) (last_of (start version) rs) (drop end b) w) (sym behind.why)
          (subst (λ (p : List ℕ). IsWhy version (run empty rs) (last_of p rs) (drop end b) why)
          (started version law b head).chained h.ends)));
      count = behind.count;
      used = omega (
        arith,
        behind.used,
        ap length is.bytes,
        length-take end b,
        h.within,
        ap (λ (v : Version). length (log_of v rs)) rules,
      );
      last = behind.last ∙ is.last ∙ ap (λ (v : Version). last_of (start v) rs) rules;
      state = behind.state;
    }

pub redoes : (b : List ℕ) (x : FoundFront) → IsFoundFront b x → (result : Result RedoneFront Fault)
    → IfOk result (IsStateBehind (version_of x.version) x.state b (map record_of x.front.records.items) x.front.end
    (why_of x.front.why)) → IfErr result (λ e. e ≡ Resources) → RedoesFront b result
redoes b x is (Ok f) behind refused =
    let version = version_of x.version in
    let rs = map record_of x.front.records.items in
    redone is.ends b version rs x.front.end (why_of x.front.why) f is.found.short is.header (from_empty b x is)
    (subst (λ (s : State). IsStateBehind version s b rs x.front.end (why_of x.front.why) f) is.start behind)
redoes b x is (Err e) behind refused = subst (λ (z : Fault). RedoesFront b (Err z)) (sym refused) tt

-- the same from a checkpoint on
pub redoes_at : (b : List ℕ) (offset : ℕ) (x : FoundFront) → IsFoundAt carried_next b offset x → (result : Result RedoneFront Fault)
    → IfOk result (IsStateBehind (version_of x.version) x.state b (map record_of x.front.records.items) x.front.end
    (why_of x.front.why)) → IfErr result (λ e. e ≡ Resources) → RedoesFrontAt b offset result
redoes_at b offset x is (Ok f) behind refused =
    let version = version_of x.version in
    let kept = is.begun.kept in
    let has = from_checkpoint carried_next b offset (record { version = x.version; found = is.chain; state = x.state }) is.begun
    (map record_of x.front.records.items) x.front.end (why_of x.front.why) is.found.front in
    let at = has.from in
    let xs : List Record = Checkpoint kept ∷ has.after in
    let link = last_of (before offset b) xs in
    record {
      base = x.state;
      kept = kept;
      after = has.after;
      front = subst (λ (v : Version). IsCarriedFront b offset v x.state kept has.after (drop f.end.used b)) (sym behind.rules)
          (subst (λ (n : ℕ). IsCarriedFront b offset version x.state kept has.after (drop n b)) (sym behind.used) at.front);
      ends = subst (λ (v : Version). IsWhy v (run x.state xs) link (drop f.end.used b) (why_of f.end.why)) (sym behind.rules)
          (subst (λ (n : ℕ). IsWhy version (run x.state xs) link (drop n b) (why_of f.end.why)) (sym behind.used)
          (subst (λ (w : Why). IsWhy version (run x.state xs) link (drop x.front.end b) w) (sym behind.why) at.ends));
      used = behind.used ∙ at.used;
      count = behind.count ∙ ap length has.are;
      last = behind.last ∙ at.last;
      state = behind.state ∙ ap (run x.state) has.are;
    }
redoes_at b offset x is (Err e) behind refused = subst (λ (z : Fault). RedoesFrontAt b offset (Err z)) (sym refused) tt
