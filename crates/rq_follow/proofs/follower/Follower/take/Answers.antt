use Rattle.std.proofs.Common.{rules, ◌≡◌, ℕ, ◌+◌, ◌++◌, List, length, ap, subst, sym, ◌∙◌, arith}
use Rattle.std.specs.Prelude.{Result, Err, IfErr}
use Rattle.std.proofs.lemmas.List.{length-append}
use Rattle.std.proofs.lemmas.Result.{IfErr-weaker, on_ok_weaker}
use Rattle.rq_record.specs.declared.fault.Fault.{Fault}
use Rattle.rq_judged.specs.Windows.{log_origin}
use Rattle.rq_follow.specs.Followers.{IsFollowing, IsReadSo, IsSoFar, RefusesBytes, carried_origin}
use Rattle.rq_follow.proofs.Beginnings.{carried_more, carried_total, plain_more, plain_total}
use Rattle.rq_follow.proofs.Beginnings.{read_more, refuses}
use Rattle.rq_follow.proofs.follower.Follower.take.Goals.{In_ok-log-in-Linked}
use Rattle.rq_follow.proofs.follower.Follower.take.Goals as goal

pub returns-in-Plain-clause-taken : goal.returns-in-Plain-clause-taken
returns-in-Plain-clause-taken g c =
    let f = c.in-Plain.pass in
    on_ok_weaker c.take.result (λ taken. λ b h.
    let is = subst (IsSoFar b) c.in-Plain.is h in
    plain_more b c.args.more.now f c.take.new.self is (taken (log_origin is.version) is.bytes is.fed))
    c.take.ensures.taken

pub returns-in-Plain-clause-refused : goal.returns-in-Plain-clause-refused
returns-in-Plain-clause-refused g c =
    let f = c.in-Plain.pass in
    let more = c.args.more.now in
    IfErr-weaker c.take.result _ _ (λ e refused. λ b h.
    let is = subst (IsSoFar b) c.in-Plain.is h in
    refuses (f.total + length more) (b ++ more) e
    (omega (arith, plain_total b f is, length-append b more)) refused) c.take.ensures.refused

pub returns-in-Carried-clause-taken : goal.returns-in-Carried-clause-taken
returns-in-Carried-clause-taken g c =
    let f = c.in-Carried.pass in
    on_ok_weaker c.take-in-Carried.result (λ taken. λ b h.
    let is = subst (IsSoFar b) c.in-Carried.is h in
    carried_more b c.args.more.now f c.take-in-Carried.new.self is
    (taken (carried_origin is.version is.base is.link) is.bytes is.fed))
    c.take-in-Carried.ensures.taken

pub returns-in-Carried-clause-refused : goal.returns-in-Carried-clause-refused
returns-in-Carried-clause-refused g c =
    let f = c.in-Carried.pass in
    let more = c.args.more.now in
    IfErr-weaker c.take-in-Carried.result _ _ (λ e refused. λ b h.
    let is = subst (IsSoFar b) c.in-Carried.is h in
    refuses (f.total + length more) (b ++ more) e
    (omega (arith, carried_total b f is, length-append b more)) refused) c.take-in-Carried.ensures.refused

pub returns-in_err-stage-in-Header-clause-refused : goal.returns-in_err-stage-in-Header-clause-refused
returns-in_err-stage-in-Header-clause-refused g c =
    let more = c.args.more.now in
    let e = c.in_err-stage-in-Header.field-0.0 in
    let answer : c.from_residual-in_err-stage-in-Header.result ≡ Err e = search rules in
    let refused : (b : List ℕ) → IsFollowing b c.args.self.now → RefusesBytes (b ++ more) e = λ b h.
    let (same, few) = subst (IsSoFar b) c.in-Header.is h in
    subst (λ (z : List ℕ). RefusesBytes z e)
    (c.in_ok-bytes-in-Header.ensures.joined ∙ ap (λ (z : List ℕ). z ++ more) same)
    c.in_err-stage-in-Header.ensures.refused in
    subst (λ (r : Result _ Fault). IfErr r
    (λ f. (b : List ℕ) → IsFollowing b c.args.self.now → RefusesBytes (b ++ more) f))
    (sym answer) refused

-- the carried file with what came
grown : (g : _) (c : In_ok-log-in-Linked g) (b : List ℕ) → IsFollowing b c.args.self.now
    → IsReadSo (b ++ c.args.more.now) c.in_ok-log-in-Linked.log.items
grown g c b h =
    let it = subst (IsSoFar b) c.in-Linked.is h in
    read_more c.carried_headers.ensures.read b c.in-Linked.first.items c.args.more.now c.in_ok-log-in-Linked.log.items it.is
    c.in_ok-log-in-Linked.ensures.joined c.in_ok-log-in-Linked.ensures.short

pub stage_linked-requires-after_bounds : goal.stage_linked-requires-after_bounds
stage_linked-requires-after_bounds g c κs within =
    let (b, h) = c.requires in
    (b ++ c.args.more.now, grown g (goal.at.stage_linked-requires-after_bounds g c).In_ok-log-in-Linked b h)

pub returns-in_err-grown-in-Linked-clause-refused : goal.returns-in_err-grown-in-Linked-clause-refused
returns-in_err-grown-in-Linked-clause-refused g c =
    let more = c.args.more.now in
    let e = c.in_err-grown-in-Linked.field-0.0 in
    let answer : c.from_residual-in_err-grown-in-Linked.result ≡ Err e = search rules in
    let refused : (b : List ℕ) → IsFollowing b c.args.self.now → RefusesBytes (b ++ more) e = λ b h.
    c.in_err-grown-in-Linked.ensures.refused (b ++ more)
    (grown g (goal.at.returns-in_err-grown-in-Linked-clause-refused g c).In_ok-log-in-Linked b h) in
    subst (λ (r : Result _ Fault). IfErr r
    (λ f. (b : List ℕ) → IsFollowing b c.args.self.now → RefusesBytes (b ++ more) f))
    (sym answer) refused

pub returns-in_ok-grown-in-Linked-clause-taken : goal.returns-in_ok-grown-in-Linked-clause-taken
returns-in_ok-grown-in-Linked-clause-taken g c = λ b h.
    c.in_ok-grown-in-Linked.ensures.stage (b ++ c.args.more.now)
    (grown g (goal.at.returns-in_ok-grown-in-Linked-clause-taken g c).In_ok-log-in-Linked b h)
