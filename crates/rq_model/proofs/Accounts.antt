-- Restarts account for the front.
use Rattle.std.proofs.Common.{◌≡◌, ℕ, ◌<◌, ◌≤◌, ◌^◌, true, List, [], ◌∷◌, ◌++◌, length, map, Option, ◌+◌, None, sym}
use Rattle.std.proofs.Common.{ap, ◌∙◌, subst, arith, length-append}
use Rattle.std.proofs.lemmas.List.{append-nil}
use Rattle.std.specs.List.{AllByRecursion}
use Rattle.sha2.specs.Sha256.{sha256}
use Rattle.rq_model.specs.Records.{By, Record, Enqueue, Abort, Version}
use Rattle.rq_model.specs.Spelling.{IsRecord}
use Rattle.rq_model.specs.Frames.{log_limit, log_of, magic, header, frames_of, AreBytes}
use Rattle.rq_model.specs.States.{Free, Element, Registrant, State, empty, is_free, definition_at}
use Rattle.rq_model.specs.WellFormed.{IsWellFormed, IsElement, IsRegistrant}
use Rattle.rq_model.specs.StateSpelling.{Fits, FitsDefinition, FitsRegistrant, log_next}
use Rattle.rq_model.specs.WorkedLogs.{text_made}
use Rattle.rq_model.specs.FateLaws.{element_lines, ReportAccounts, CheckpointReportAccounts, BeginningReportAccounts}
use Rattle.rq_model.specs.FateLaws.{IsAsEnqueued, Accounts, RestartAccounts, BeginningAccounts, ClosedAccounts}
use Rattle.rq_model.specs.FateLaws.{CheckpointAccounts}
use Rattle.rq_model.specs.Fates.{requests, done, kills, shown, with_aborts, tries_at, hears, leavings, IsBounded}
use Rattle.rq_model.specs.Fates.{remains}
use Rattle.rq_model.specs.ClientLines.{BeginningTellsClients, CheckpointTellsClients, ReportTellsClients, TellsClients}
use Rattle.rq_model.specs.Reports.{IsText}
use Rattle.rq_model.specs.Appending.{MayFollow}
use Rattle.rq_model.specs.Closing.{IsTail}
use Rattle.rq_model.proofs.Lists.{each_weaker, each_append, each_both}
use Rattle.rq_model.proofs.Kept.{runs_are_well_formed, empty_is_well_formed}
use Rattle.rq_model.proofs.Widths.{runs_fit, empty_fits}
use Rattle.rq_model.proofs.Texts.{one_text, is_text}
use Rattle.rq_model.proofs.Restarts.{frames_many}
use Rattle.rq_model.proofs.Tails.{aborts_follow, crash_in_the_tail}
use Rattle.rq_model.proofs.FromCheckpoints.{true_says_the_same, one_restart_at, true_back, true_is_same}
use Rattle.rq_model.proofs.Appended.{front_follows}
use Rattle.rq_model.proofs.Longest.{front_whole, one_front, front_ends, one_restart}
use Rattle.rq_model.proofs.ReportLines.{IsNarrow, StandsIn, text_told}
use Rattle.rq_model.proofs.ToldClients.{Asked, tells_clients}
use Rattle.rq_model.specs.Machine.{all_lawful, latest, run, final, is_registered}
use Rattle.rq_model.specs.Fronts.{IsFront, Restarted, IsRestart}
use Rattle.rq_model.proofs.Found.{front_restart}
use Rattle.rq_model.proofs.Balance.{one_fate, all_are_free, runs_end}
use Rattle.std.specs.Prelude.{◌≢◌}
use Rattle.rq_model.proofs.Tried.{attempts_are_tries, bounded_tries}
use Rattle.rq_model.proofs.Taken.{takes_are_tries}
use Rattle.rq_model.proofs.Meaning.{who_is_registered}
use Rattle.rq_model.proofs.Origins.{all_as_enqueued}
use Rattle.rq_model.proofs.Clients.{how_far}

pub accounts : (version : Version) (rs : List Record) → all_lawful version empty rs ≡ true
    → Accounts (with_aborts rs) (final (run empty rs))
accounts version rs lawful =
    let all = with_aborts rs in
    let (too, joined) = runs_end version rs lawful in
    record {
      fates = λ p. one_fate version rs p lawful;
      elements = subst (λ (z : State). AllByRecursion (IsAsEnqueued all z) z.elements) joined
          (all_as_enqueued version all too);
      free = all_are_free version rs lawful;
      attempts = subst (λ (z : State). AllByRecursion (λ (e : Element). e.attempts
          ≡ tries_at e.id e.home all) z.elements)
          joined (attempts_are_tries version all too);
      bounded = λ p home. subst (λ (z : State). (definition_at z.definitions home).limit ≢ 0
          → IsBounded (definition_at z.definitions home).limit (tries_at p home all) (leavings p home all)) joined
          (bounded_tries version all p home too);
      taken = λ p. takes_are_tries version rs p lawful;
      registered = λ queue name. subst (λ (z : State). is_registered z queue name ≡ remains queue name all) joined
          (who_is_registered all queue name);
      clients = subst (λ (z : State). AllByRecursion
          (λ (r : Registrant). r.last ≡ latest None (hears r.queue r.name empty all)) z.registrants)
          joined (how_far version all too);
    }

pub restart_state : (b : List ℕ) (version : Version) (rs : List Record) (rest : List ℕ) (r : Restarted)
    → IsFront b version rs rest → IsRestart b r → r.state ≡ final (run empty rs)
restart_state b version rs rest r front restart =
    ap (λ (z : Restarted). z.state) (front_ends b version rs rest r front restart).answer

pub restart_accounts : RestartAccounts
restart_accounts b version rs rest r front restart =
    subst (Accounts (with_aborts rs)) (sym (restart_state b version rs rest r front restart))
    (accounts version rs front.longest.begins.lawful)

beginning_state : (b tail part missing : List ℕ) (version : Version) (rs : List Record) (rest : List ℕ) (r : Restarted)
    → AreBytes b → IsFront b version rs rest → IsTail b tail → tail ≡ part ++ missing
    → length (log_of version rs ++ part) ≤ log_limit → IsRestart (log_of version rs ++ part) r
    → r.state ≡ final (run empty rs)
beginning_state b tail part missing version rs rest r fits front tailed parts short found =
    let (first, restart) = front_restart b version rs rest fits front in
    let here = crash_in_the_tail b tail part missing version rs rest first front tailed parts short restart in
    let same = one_restart (log_of version rs ++ part) r here.again found here.restart in
    ap (λ (z : Restarted). z.state) same ∙ here.state ∙ restart_state b version rs rest first front restart

pub beginning_accounts : BeginningAccounts
beginning_accounts b tail part missing version rs rest r fits front tailed parts short found =
    subst (Accounts (with_aborts rs))
    (sym (beginning_state b tail part missing version rs rest r fits front tailed parts short found))
    (accounts version rs front.longest.begins.lawful)

pub closed_accounts : ClosedAccounts
closed_accounts b closed version rs rest r fits front (tail, h) short found =
    let one = one_front b h.version version h.records rs h.rest rest h.front front in
    let whole : closed ≡ log_of version rs ++ tail = h.bytes ∙ (λ i. log_of (one.0 i) (one.1 i) ++ tail) in
    beginning_accounts b tail tail [] version rs rest r fits front h.aborts (sym (append-nil tail))
    (subst (λ (z : List ℕ). length z ≤ log_limit) whole short)
    (subst (λ (z : List ℕ). IsRestart z r) whole found)

pub checkpoint_accounts : CheckpointAccounts
checkpoint_accounts b offset version rs rest r front true_here at =
    let (first, restart) = true_back b offset r true_here at in
    let same = one_restart_at log_next log_next b offset first r (true_is_same b offset first true_here restart) at in
    subst (Accounts (with_aborts rs)) (ap (λ (z : Restarted). z.state) same)
    (restart_accounts b version rs rest first front restart)

-- Lines.

-- an ENQUEUE is not one of the ABORTs
in_front : (rs before after : List Record) (us : List ℕ) (unit queue priority : ℕ) (by : Option By) (payload : List ℕ)
    → rs ++ map Abort us ≡ before ++ Enqueue unit queue priority by payload ∷ after → length before < length rs
in_front [] [] after [] unit queue priority by payload e = absurd (omega (arith, ap length e))
in_front [] [] after (u ∷ us) unit queue priority by payload e = absurd cc
in_front [] (b ∷ before) after [] unit queue priority by payload e = absurd (omega (arith, ap length e))
in_front [] (b ∷ before) after (u ∷ us) unit queue priority by payload e =
    let tails : map Abort us ≡ before ++ Enqueue unit queue priority by payload ∷ after = cc in
    absurd (omega (arith, in_front [] before after us unit queue priority by payload tails))
in_front (r ∷ rs) [] after us unit queue priority by payload e = omega arith
in_front (r ∷ rs) (b ∷ before) after us unit queue priority by payload e =
    let tails : rs ++ map Abort us ≡ before ++ Enqueue unit queue priority by payload ∷ after = cc in
    omega (arith, in_front rs before after us unit queue priority by payload tails)

narrow : (rs : List Record) (s : State) → length rs < 2 ^ 64 → (e : Element) → IsAsEnqueued (with_aborts rs) s e
    → IsNarrow e
narrow rs s few e x =
    let h = x.enqueued in
    let low = in_front rs h.before h.there.after
    (run empty rs).units x.unit e.origin e.priority h.by e.payload h.there.whole in
    omega (arith, low, few, h.there.place)

pub few_records : (b : List ℕ) (version : Version) (rs : List Record) (rest : List ℕ) → IsFront b version rs rest
    → length rs < 2 ^ 64
few_records b version rs rest front =
    let many = frames_many (sha256 (magic version)) rs in
    let whole = ap length (front_whole b version rs rest front) in
    let parts = length-append (log_of version rs) rest in
    let more = length-append (header version) (frames_of (sha256 (magic version)) rs) in
    omega (arith, many, whole, parts, more, front.short)

stands_in : (s : State) (e : Element) → (e.mark ≡ Free) × IsElement s e → StandsIn s.definitions e
stands_in s e x = record { free = ap is_free x.0; home = x.1.home }

-- what the state after such records and the last aborts keeps
record Ended (version : Version) (rs : List Record) : Type 0 where
  account : Accounts (with_aborts rs) (final (run empty rs))
  keeps : IsWellFormed (final (run empty rs))
  fits : Fits (final (run empty rs))

ended : (version : Version) (rs : List Record) → MayFollow version empty rs → Ended version rs
ended version rs old =
    let (too, joined) = runs_end version rs old.lawful in
    record {
      account = accounts version rs old.lawful;
      keeps = subst IsWellFormed joined (runs_are_well_formed version empty (with_aborts rs) empty_is_well_formed too);
      fits = subst Fits joined (runs_fit version empty (with_aborts rs) empty_fits
          (each_append (IsRecord version) rs _ old.records (aborts_follow version rs old).records));
    }

-- the lines of a text for the state after such records and the last aborts
pub text_accounts : (version : Version) (rs : List Record) (r : Restarted) (text : List ℕ) (p : ℕ) → p < 2 ^ 64
    → MayFollow version empty rs → length rs < 2 ^ 64 → r.state ≡ final (run empty rs) → IsText r text
    → element_lines p text + (done p (with_aborts rs) + kills p (with_aborts rs)) ≡ requests p (with_aborts rs)
text_accounts version rs r text p low old few same told =
    let s = final (run empty rs) in
    let h = ended version rs old in
    let account = h.account in
    let narrow_all = each_weaker (IsAsEnqueued (with_aborts rs) s) IsNarrow (narrow rs s few) s.elements account.elements in
    let stand = each_weaker _ (StandsIn s.definitions) (stands_in s) s.elements
    (each_both (λ (e : Element). e.mark ≡ Free) (IsElement s) s.elements account.free h.keeps.elements) in
    let back = sym same in
    let lines : element_lines p (text_made r) ≡ shown p r.state = text_told p r low
    (subst (λ (t : State). AllByRecursion FitsDefinition t.definitions) back h.fits.definitions)
    (subst (λ (t : State). AllByRecursion FitsRegistrant t.registrants) back h.fits.registrants)
    (subst (λ (t : State). AllByRecursion IsNarrow t.elements) back narrow_all)
    (subst (λ (t : State). AllByRecursion (StandsIn t.definitions) t.elements) back stand) in
    let made = one_text r text (text_made r) told (is_text r (subst IsWellFormed back h.keeps)) in
    let count = ap (element_lines p) made ∙ lines ∙ ap (shown p) same in
    omega (arith, count, account.fates p)

-- the clients' lines
pub text_tells : (version : Version) (rs : List Record) (r : Restarted) (text : List ℕ) → MayFollow version empty rs
    → r.state ≡ final (run empty rs) → IsText r text → TellsClients (with_aborts rs) text
text_tells version rs r text old same told =
    let h = ended version rs old in
    let s = final (run empty rs) in
    let back = sym same in
    let asked : Asked (with_aborts rs) s =
    record {
      definitions = h.fits.definitions;
      named = h.fits.registrants;
      defined = each_weaker (IsRegistrant s) (λ (t : Registrant). t.queue < length s.definitions) (λ t x. x.queue)
          s.registrants h.keeps.registrants;
      few = h.keeps.few;
      rise = h.keeps.registrants_rise;
      registered = h.account.registered;
      lasts = h.account.clients;
    } in
    let made = one_text r text (text_made r) told (is_text r (subst IsWellFormed back h.keeps)) in
    subst (TellsClients (with_aborts rs)) (sym made)
    (tells_clients (with_aborts rs) r (subst (Asked (with_aborts rs)) back asked))

pub report_accounts : ReportAccounts
report_accounts b version rs rest text p low front (r, restart, told) =
    text_accounts version rs r text p low (front_follows b version rs rest front) (few_records b version rs rest front)
    (restart_state b version rs rest r front restart) told

pub beginning_report_accounts : BeginningReportAccounts
beginning_report_accounts b tail part missing version rs rest text p low fits front tailed parts short told =
    text_accounts version rs told.0 text p low (front_follows b version rs rest front)
    (few_records b version rs rest front)
    (beginning_state b tail part missing version rs rest told.0 fits front tailed parts short told.1) told.2

pub checkpoint_report_accounts : CheckpointReportAccounts
checkpoint_report_accounts b offset version rs rest text p low front true_here told =
    report_accounts b version rs rest text p low front ((true_says_the_same b offset text true_here).0 told)

pub report_tells : ReportTellsClients
report_tells b version rs rest text front (r, restart, told) =
    text_tells version rs r text (front_follows b version rs rest front) (restart_state b version rs rest r front restart)
    told

pub beginning_tells : BeginningTellsClients
beginning_tells b tail part missing version rs rest text fits front tailed parts short told =
    text_tells version rs told.0 text (front_follows b version rs rest front)
    (beginning_state b tail part missing version rs rest told.0 fits front tailed parts short told.1) told.2

pub checkpoint_tells : CheckpointTellsClients
checkpoint_tells b offset version rs rest text front true_here told =
    report_tells b version rs rest text front ((true_says_the_same b offset text true_here).0 told)
