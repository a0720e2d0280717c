-- Writing text after text.
use Rattle.std.proofs.Common.{◌≡◌, ◌++◌, ◌∙◌, ℕ, ◌⊎◌, List, Option, Some, None, false, codes, refl, sym, ap, subst, append_assoc, inl, inr}
use Rattle.std.specs.Prelude.{Result, Ok, Err}
use Rattle.std.specs.Result.{OnOk}
use Rattle.std.proofs.KnownBytes.{Appends-trans}
use Rattle.rq_model.specs.Fronts.{Restarted}
use Rattle.rq_look.specs.Looks.{AppendsSome, IsReportFrom, BreaksOff, LacksReport}
use Rattle.rq_look.specs.Scripts.{IsChoice, LeavesOut}
use Rattle.rq_found.specs.Ends.{IsRestartFrom}
use Rattle.rq_found.specs.Refusals.{RefusedFrom, IsBroken, failed_writes}
use Rattle.rq_found.specs.declared.trouble.Trouble.{Trouble}
use Rattle.rq_found.specs.declared.trouble.Trouble.TheVariants.{Log, Untold, NoQueue, Nothing}
use Rattle.rq_record.specs.declared.fault.Fault.{Fault}
use Rattle.rq_record.specs.declared.fault.Fault.TheVariants.{NotALog, Resources}
use Rattle.rq_model.specs.Reports.{IsText}
use Rattle.rq_found.proofs.Writes.{refused_unwritten}

-- one behind the other
pub both_put : (old mid new : Option (List ℕ)) → AppendsSome old mid → AppendsSome mid new → AppendsSome old new
both_put old mid new (a, p) (b, q) = (a ++ b, Appends-trans old mid new a b p q)

-- each log may be refused for want of memory
memory_refused : (at : Option ℕ) (b : List ℕ) → RefusedFrom at b Resources
memory_refused None b = tt
memory_refused (Some at) b = tt

pub resources_refused : (at : Option ℕ) (b : List ℕ) (e : Fault) → e ≡ Resources → RefusedFrom at b e
resources_refused at b e p = subst (λ (f : Fault). RefusedFrom at b f) (sym p) (memory_refused at b)

-- the text of a restart is the report from where that begins
pub report_from : (at : Option ℕ) (b text : List ℕ) (r : Restarted) → IsRestartFrom at b r → IsText r text
    → IsReportFrom at b text
report_from None b text r is told = (r, is, told)
report_from (Some at) b text r is told = (r, is, told)

-- what breaks off leaves no record untold
pub nothing_untold : (at : Option ℕ) (b : List ℕ) (old new : Option (List ℕ)) (e : Trouble) → IsBroken e
    → LeavesOut at b old new e
nothing_untold at b old new (Log fault) h = tt
nothing_untold at b old new (Untold number) h = absurd h
nothing_untold at b old new (NoQueue queue) h = tt
nothing_untold at b old new (Nothing subject) h = tt

-- and so does a script
pub broken_off : (e : Trouble) → IsBroken e → BreaksOff e
broken_off (Log fault) h = h
broken_off (Untold number) h = tt
broken_off (NoQueue queue) h = h
broken_off (Nothing subject) h = h

-- what is put behind a choice belongs to it
pub choice_goes_on : (text put : List ℕ) → IsChoice false text → IsChoice false (text ++ put)
choice_goes_on text put h =
    (h.0 ++ put, ap (λ (t : List ℕ). t ++ put) h.1 ∙ append_assoc (codes "# front ends behind ") h.0 put)

-- what holds once a call is done
pub then_ok : {A E : Type 0} (P Q : Type 0) → (P → Q) → (r : Result A E) → OnOk r P → OnOk r Q
then_ok P Q f (Ok x) p = f p
then_ok P Q f (Err e) p = tt

-- no report is lacking since a write failed
pub lacking_unwritten : (at : Option ℕ) (b : List ℕ) (wanted : Option ℕ) (e : Trouble) → LacksReport at b wanted e
    → failed_writes e ≡ 0
lacking_unwritten at b wanted (Log fault) h = refused_unwritten at b fault h
lacking_unwritten at b wanted _ h = refl

-- what stands in a log without a front is not refused since a write failed
pub frontless_unwritten : (e : Fault) → (e ≡ NotALog) ⊎ (e ≡ Resources) → failed_writes (Log e) ≡ 0
frontless_unwritten e (inl h) = ap (λ (f : Fault). failed_writes (Log f)) h
frontless_unwritten e (inr h) = ap (λ (f : Fault). failed_writes (Log f)) h
